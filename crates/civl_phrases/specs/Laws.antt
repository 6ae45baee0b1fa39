-- What the definitions say together.
use Rattle.std.specs.Prelude.{◌≡◌, ℕ, ◌<◌, ◌↔◌, Bool, true, false, IsTrue, List, [], ◌∷◌, length, Option, Some, None, Result, Ok, Err, codes}
use Rattle.civl_tree.specs.Token.{Token, Reserved, Sign, Named, Number}
use Rattle.civl_phrases.specs.declared.halt.Stop.{Stop}
use Rattle.civl_phrases.specs.declared.halt.Stop.TheVariants.{NotHere, Deep}
use Rattle.civl_phrases.specs.Bracket.{IsShallow, room}
use Rattle.civl_phrases.specs.Reader.{Reader, both, mapped, chosen, done, opened, flagged}
use Rattle.civl_phrases.specs.List.{cons, repeated, enclosed}
use Rattle.civl_phrases.specs.Leaf.{a_number}
use Rattle.civl_phrases.specs.Phrase.{IsReader, AtEnd}
use Rattle.civl_phrases.specs.Exact.{IsRight, placed}

-- s spells the values that pass the test f, and r reads them, with d brackets open at most.
abbrev pub Reads : {A : Type 0} → ℕ → (A → List Token) → (A → Bool) → Reader A → Type 0
Reads d s f r = IsReader d d AtEnd s (λ a. IsTrue (f a)) r

-- What a reader of whole texts answers is right.
abbrev pub AnswersRight : Type 0 → Type 0
AnswersRight A = (d : ℕ) (s : A → List Token) (f : A → Bool) (r : Reader A) → Reads d s f r → (tokens : List Token) → IsRight d s (λ a. IsTrue (f a)) tokens (placed (length tokens) (r tokens))

-- Nothing else is right. So each answer comes exactly where it is right.
abbrev pub AnswersOnlyRight : Type 0 → Type 0
AnswersOnlyRight A = (d : ℕ) (s : A → List Token) (f : A → Bool) (r : Reader A) → Reads d s f r → (tokens : List Token) (y : Result A Stop) → IsRight d s (λ a. IsTrue (f a)) tokens y → placed (length tokens) (r tokens) ≡ y

-- No two values have one spelling, where it hasn't too many brackets.
abbrev pub OneSpelling : Type 0 → Type 0
OneSpelling A = (d : ℕ) (s : A → List Token) (f : A → Bool) (r : Reader A) → Reads d s f r → (a b : A) → IsTrue (f a) → IsTrue (f b) → s a ≡ s b → IsShallow d (s a) → a ≡ b

-- x takes a token at least.
abbrev pub Shortens : {A : Type 0} → Reader A → Type 0
Shortens {A} x = (tokens rest : List Token) (a : A) → x tokens ≡ Ok (a, rest) → length rest < length tokens

-- The bound on a list never tells: it is x and then the list, where the test holds, and else nothing.
abbrev pub ListUnfolds : Type 0 → Type 0
ListUnfolds A = (test : Option Token → Bool) (x : Reader A) → Shortens x → repeated test x ≡ chosen test (mapped cons (both x (λ _. repeated test x))) (mapped (λ _. []) done)

-- Readers count the brackets as the contract does.
abbrev pub CountedAlike : Type 0
CountedAlike = (d : ℕ) (tokens : List Token) → IsShallow d tokens ↔ ((left : ℕ) × (room d tokens ≡ Some left))

abbrev pub numbers : List Token → Result (List ℕ × List Token) Stop
numbers = opened (Sign (codes "(")) 1 (enclosed (Sign (codes ")")) a_number)

-- Worked examples: numbers with commas in brackets, by the definitions alone.
pub record Examples : Type 0 where
  pub none : numbers (Sign (codes "(") ∷ Sign (codes ")") ∷ []) ≡ Ok ([], [])
  pub two : numbers (Sign (codes "(") ∷ Number 1 ∷ Sign (codes ",") ∷ Number 2 ∷ Sign (codes ")") ∷ Sign (codes ";") ∷ []) ≡ Ok (1 ∷ 2 ∷ [], Sign (codes ";") ∷ [])
  pub trailing_comma : numbers (Sign (codes "(") ∷ Number 1 ∷ Sign (codes ",") ∷ Sign (codes ")") ∷ []) ≡ Err (NotHere 1)
  pub leading_comma : numbers (Sign (codes "(") ∷ Sign (codes ",") ∷ Number 1 ∷ Sign (codes ")") ∷ []) ≡ Err (NotHere 3)
  pub other_bracket : numbers (Sign (codes "(") ∷ Number 1 ∷ Sign (codes "]") ∷ []) ≡ Err (NotHere 1)
  pub cut_short : numbers (Sign (codes "(") ∷ Number 1 ∷ []) ≡ Err (NotHere 0)
  pub no_bracket : numbers (Number 1 ∷ []) ≡ Err (NotHere 1)
  pub deep : opened (Sign (codes "(")) 0 a_number (Sign (codes "(") ∷ Number 1 ∷ []) ≡ Err (Deep 2)
  pub deep_missed : opened (Sign (codes "(")) 0 a_number (Sign (codes "{") ∷ []) ≡ Err (NotHere 1)
  pub flag_set : flagged (Reserved (codes "linear")) (Reserved (codes "linear") ∷ Number 1 ∷ []) ≡ Ok (true, Number 1 ∷ [])
  pub flag_unset : flagged (Reserved (codes "linear")) (Named (codes "linear") ∷ []) ≡ Ok (false, Named (codes "linear") ∷ [])
  pub brackets_alike : room 2 (Sign (codes "(") ∷ Sign (codes "{") ∷ Sign (codes "}") ∷ Sign (codes "[") ∷ []) ≡ Some 0
  pub third_bracket : room 2 (Sign (codes "(") ∷ Sign (codes "{") ∷ Sign (codes "[") ∷ []) ≡ None
