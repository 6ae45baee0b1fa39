-- All that may stand at a place of a text.
use Rattle.std.specs.Prelude.{◌↔◌, ℕ, List, map, take, IsTrue}
use Rattle.civl_lex.specs.declared.token.Token.{Token as Placed}
use Rattle.civl_lex.specs.Spelled.{spelled}
use Rattle.civl_expected.specs.Expected.{MayStandIn, MayEndIn, token_of, tried_tokens, AreThose}
use Rattle.civl_expected.specs.declared.expected.Expected.{Expected}
use Rattle.civl_expected.specs.declared.kind.TextKind.{TextKind}

-- of the tokens that are tried, those that may stand behind the tokens before the place; and whether the text may end there
pub record IsExpected (kind : TextKind) (tokens : List Placed) (place : ℕ) (expected : Expected) : Type 0 where
  pub tokens_are : AreThose (MayStandIn kind (take place (spelled tokens))) tried_tokens (map token_of expected.candidates)
  pub end_is : IsTrue expected.end ↔ MayEndIn kind (take place (spelled tokens))
