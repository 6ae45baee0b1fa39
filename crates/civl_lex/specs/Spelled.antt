-- The tokens of the code, as those of a spelling, and where they lie.
use Rattle.std.specs.Prelude.{◌≡◌, ℕ, List, length, map, take, drop, Some, slice_get}
use Rattle.civl_tree.specs.Token.{Token, Named, Reserved, Sign, Number, text_of}
use Rattle.civl_lex.specs.declared.token.Kind.{Kind}
use Rattle.civl_lex.specs.declared.token.Kind.TheVariants as kinds
use Rattle.civl_lex.specs.declared.token.Token.{Token as Placed}
use Rattle.civl_lex.specs.Text.{StartsAt}

-- the token of this kind and text
abbrev pub token_of : Kind → List ℕ → Token
token_of kinds.Name text = Named text
token_of (kinds.Number value) text = Number value
token_of kinds.Word text = Reserved text
token_of kinds.Sign text = Sign text

abbrev pub spelled_token : Placed → Token
spelled_token token = token_of token.kind token.text.now

-- the tokens without their places
abbrev pub spelled : List Placed → List Token
spelled tokens = map spelled_token tokens

-- The text is the token's own, and the slice of the source from its start.
pub record IsCutFrom (source : List ℕ) (token : Placed) : Type 0 where
  pub own : token.text.now ≡ text_of (spelled_token token)
  pub slice : token.text.now ≡ take (length token.text.now) (drop token.start source)

-- Each token has the place at which it begins.
abbrev pub HaveStarts : List ℕ → List Placed → Type 0
HaveStarts source tokens = (number : ℕ) (token : Placed) → slice_get tokens number ≡ Some token → StartsAt source number token.start
