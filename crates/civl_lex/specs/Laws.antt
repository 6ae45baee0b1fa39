-- What the definitions say together.
use Rattle.std.specs.Prelude.{◌≡◌, ℕ, IsTrue, List, [], ◌∷◌, ◌++◌, map, Result, codes}
use Rattle.std.specs.List.{AllByRecursion, flat_map}
use Rattle.civl_tree.specs.Token.{Token, Named, Reserved, Sign, Number, text_of, IsToken}
use Rattle.civl_tree.specs.examples.SpellingFlag.{flag_tokens}
use Rattle.civl_tree.specs.examples.SpellingTexts.{lines}
use Rattle.civl_lex.specs.Gap.{is_blank}
use Rattle.civl_lex.specs.Text.{HasTokens, NoTokenAt, StartsAt, IsLexedAs}

-- No bytes have two answers: one list of tokens at most, or one fault, and never both.
abbrev pub OneAnswer : Type 0
OneAnswer = (bytes : List ℕ) (x y : Result (List Token) ℕ) → IsLexedAs bytes x → IsLexedAs bytes y → x ≡ y

-- All bytes have an answer.
abbrev pub SomeAnswer : Type 0
SomeAnswer = (bytes : List ℕ) → (x : Result (List Token) ℕ) × IsLexedAs bytes x

-- No token begins at two places.
abbrev pub OneStart : Type 0
OneStart = (bytes : List ℕ) (number p q : ℕ) → StartsAt bytes number p → StartsAt bytes number q → p ≡ q

-- Tokens that may stand in a text, each with a byte
abbrev pub AreSpaced : List (Token × ℕ) → Type 0
AreSpaced tokens = AllByRecursion (λ token. IsToken token.0 × IsTrue (is_blank token.1)) tokens

-- the tokens' texts, each with its byte behind it
abbrev pub spaced : List (Token × ℕ) → List ℕ
spaced tokens = flat_map (λ token. text_of token.0 ++ token.1 ∷ []) tokens

-- Any tokens with a blank behind each are the tokens of what they spell.
abbrev pub SpacedTokens : Type 0
SpacedTokens = (tokens : List (Token × ℕ)) → AreSpaced tokens → HasTokens (spaced tokens) (map (λ token. token.0) tokens)

-- Worked examples, by the definitions alone.
pub record Examples : Type 0 where
  pub header : HasTokens (codes "civl 1;") (Reserved (codes "civl") ∷ Number 1 ∷ Sign (codes ";") ∷ [])
  pub fault : NoTokenAt (codes "civl 1 $") 7
  pub longest : HasTokens (codes "a<<=civl2") (Named (codes "a") ∷ Sign (codes "<<") ∷ Sign (codes "=") ∷ Named (codes "civl2") ∷ [])
  pub digits : HasTokens (codes "1a 0") (Number 1 ∷ Named (codes "a") ∷ Number 0 ∷ [])
  pub zeros : NoTokenAt (codes "00") 0
  pub limit : HasTokens (codes "4294967295") (Number 4294967295 ∷ [])
  pub past : NoTokenAt (codes "4294967296") 0
  pub comments : HasTokens (codes "a//b" ++ 10 ∷ codes "c//d") (Named (codes "a") ∷ Named (codes "c") ∷ [])
  pub slash : NoTokenAt (codes "a /") 2

-- The text of a whole program, with no more blanks than its author wants, has the tokens that spell the program.
abbrev pub flag_text : List ℕ
flag_text = lines ("civl 1; layers 1; permissions 1;"
    ∷ "global f : bool layers 0 to 1;"
    ∷ "init true; // any store"
    ∷ "action Set() -> () choose () layers 0 to 0 atomic"
    ∷ "  gate true guard true { f := true; }"
    ∷ "action AtomSet() -> () choose () layers 1 to 1 atomic"
    ∷ "  gate true guard true { f := true; }"
    ∷ "proc DoSet() -> () refines AtomSet with () layer 1"
    ∷ "  { call Set() -> (); commit; }"
    ∷ "thread DoSet();" ∷ [])

abbrev pub FlagHasTokens : Type 0
FlagHasTokens = HasTokens flag_text flag_tokens
