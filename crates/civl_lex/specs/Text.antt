-- Part of the claim: docs/CLAIM.md.
-- The tokens of a text: at each place outside blanks and comments the longest token that begins there is taken.
use Rattle.std.specs.Prelude.{◌≡◌, ℕ, ◌≢◌, false, List, [], ◌∷◌, ◌++◌, length, drop, Result, Ok, Err}
use Rattle.civl_tree.specs.Token.{Token, text_of}
use Rattle.civl_lex.specs.Gap.{IsGap, IsLastGap, opens_gap}
use Rattle.civl_lex.specs.Lexical.{IsLongest, NoneAtFront}

-- Behind a gap this token is next, the longest that begins there, and then come the bytes `after`.
pub record IsNext (token : Token) (bytes after : List ℕ) : Type 0 where
  pub gap : List ℕ
  pub is_gap : IsGap gap
  pub parts : bytes ≡ gap ++ (text_of token ++ after)
  pub longest : IsLongest token (text_of token ++ after)

-- The bytes begin with these tokens, one after the other and each behind a gap, and then comes `rest`.
abbrev pub Leads : List Token → List ℕ → List ℕ → Type 0
Leads [] bytes rest = bytes ≡ rest
Leads (token ∷ tokens) bytes rest = (after : List ℕ) × IsNext token bytes after × Leads tokens after rest

-- The bytes have these tokens: they are the tokens' texts in order, with blanks and comments before, between and after,
-- and each is the longest token that begins at its place.
abbrev pub HasTokens : List ℕ → List Token → Type 0
HasTokens bytes tokens = (rest : List ℕ) × Leads tokens bytes rest × IsLastGap rest

-- Before place p of the bytes stand these tokens, and a gap behind them.
pub record Reaches (tokens : List Token) (bytes : List ℕ) (p : ℕ) : Type 0 where
  pub gap : List ℕ
  pub is_gap : IsGap gap
  pub leads : Leads tokens bytes (gap ++ drop p bytes)

-- The first of these bytes begins neither a blank nor a comment nor any token.
pub record IsFault (bytes : List ℕ) : Type 0 where
  pub some : bytes ≢ []
  pub outside : opens_gap bytes ≡ false
  pub none : NoneAtFront bytes

-- Place p is the first place outside blanks and comments at which no token begins.
abbrev pub NoTokenAt : List ℕ → ℕ → Type 0
NoTokenAt bytes p = (tokens : List Token) × Reaches tokens bytes p × IsFault (drop p bytes)

-- The token with this number, counted from 0, begins at place p.
abbrev pub StartsAt : List ℕ → ℕ → ℕ → Type 0
StartsAt bytes number p =
    (tokens : List Token) × (token : Token) × (length tokens ≡ number) × Reaches tokens bytes p × IsLongest token (drop p bytes)

-- What the bytes are cut into: these tokens, or a fault at this place.
abbrev pub IsLexedAs : List ℕ → Result (List Token) ℕ → Type 0
IsLexedAs bytes (Ok tokens) = HasTokens bytes tokens
IsLexedAs bytes (Err p) = NoTokenAt bytes p
