-- Part of the claim: docs/CLAIM.md.
-- What a text spells, where `spell` gives the tokens of a value, and `fits` says which values have a spelling.
use Rattle.std.specs.Prelude.{◌≡◌, ℕ, List}
use Rattle.civl_tree.specs.Token.{Token}
use Rattle.civl_lex.specs.Text.{HasTokens}

-- The bytes spell the value: they have tokens, and these are its spelling.
pub record Spells {A : Type 0} (spell : A → List Token) (fits : A → Type 0) (bytes : List ℕ) (value : A) : Type 0 where
  pub tokens : List Token
  pub has : HasTokens bytes tokens
  pub spelled : fits value × (tokens ≡ spell value)

-- The bytes spell this value and no other.
pub record SpellsOnly {A : Type 0} (spell : A → List Token) (fits : A → Type 0) (bytes : List ℕ) (value : A) : Type 0 where
  pub spells : Spells spell fits bytes value
  pub only : (other : A) → Spells spell fits bytes other → other ≡ value
