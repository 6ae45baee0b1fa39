-- Readers of lists and of optional parts, and how optional parts are spelled.
use Rattle.std.specs.Prelude.{ℕ, zero, suc, Bool, List, [], ◌∷◌, ◌++◌, length, Option, Some, None, Ok}
use Rattle.civl_tree.specs.Token.{Token}
use Rattle.civl_tree.specs.Spelling.{comma, optional}
use Rattle.civl_phrases.specs.Reader.{Answer, Reader, ◌>>=◌, miss, begins, after, both, mapped, then_token, chosen, done}

-- ---- spellings

-- nothing, or the value's spelling
abbrev pub perhaps : {A : Type 0} → (A → List Token) → Option A → List Token
perhaps s None = []
perhaps s (Some a) = s a

-- the word or sign where it stands, and then the value's spelling
abbrev pub flag_spelled : {A : Type 0} → Token → (A → List Token) → Bool × A → List Token
flag_spelled token s p = optional p.0 token (s p.1)

-- ---- lists

abbrev pub cons : {A : Type 0} → A × List A → List A
cons p = p.0 ∷ p.1

-- x as long as the test holds of the next token, fewer than n times
unfoldable pub repeated_by : {A : Type 0} → (Option Token → Bool) → Reader A → ℕ → Reader (List A)
repeated_by test x zero = miss
repeated_by test x (suc n) = chosen test (mapped cons (both x (λ _. repeated_by test x n))) (mapped (λ _. []) done)

-- x as long as the test holds of the next token; there are no more x's than tokens
unfoldable pub repeated : {A : Type 0} → (Option Token → Bool) → Reader A → Reader (List A)
repeated test x tokens = repeated_by test x (suc (length tokens)) tokens

-- with values before those that are read
abbrev pub front : {A : Type 0} → List A → Answer (List A) → Answer (List A)
front xs answer = answer >>= λ v. Ok (xs ++ v.0, v.1)

-- ---- lists with commas

-- an x, and one more behind each comma
unfoldable pub series : {A : Type 0} → Reader A → Reader (List A)
series x = mapped cons (both x (λ _. repeated (begins comma) (after comma x)))

-- nothing, or x's with commas between them, and then the closing bracket
unfoldable pub enclosed : {A : Type 0} → Token → Reader A → Reader (List A)
enclosed close x = chosen (begins close) (mapped (λ _. []) (after close done)) (then_token close (series x))

-- ---- optional parts

-- x where the test holds of the next token, or nothing
unfoldable pub option_of : {A : Type 0} → (Option Token → Bool) → Reader A → Reader (Option A)
option_of test x = chosen test (mapped (λ a. Some a) x) (mapped (λ _. None) done)
