-- A text with its tokens.
use Rattle.std.specs.Prelude.{ℕ, List, All}
use Rattle.civl_lex.specs.declared.token.Token.{Token as Placed}
use Rattle.civl_lex.specs.Text.{HasTokens}
use Rattle.civl_lex.specs.Spelled.{spelled, HaveStarts, IsCutFrom}

-- These are all tokens of the bytes, each with its place and with its own text.
pub record AreTokens (bytes : List ℕ) (tokens : List Placed) : Type 0 where
  pub whole : HasTokens bytes (spelled tokens)
  pub starts : HaveStarts bytes tokens
  pub texts : All (IsCutFrom bytes) tokens
