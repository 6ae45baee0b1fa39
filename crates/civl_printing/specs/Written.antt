-- What is written of tokens, their canonical text, in words that stay folded in clauses.
use Rattle.std.specs.Prelude.{ℕ, List}
use Rattle.civl_tree.specs.Token.{Token}
use Rattle.civl_tree.specs.SpellingText.{canonical_token, canonical_text}

-- a token, with the byte behind it
unfoldable pub written_token : Token → List ℕ
written_token token = canonical_token token

-- tokens in order
unfoldable pub written : List Token → List ℕ
written tokens = canonical_text tokens
