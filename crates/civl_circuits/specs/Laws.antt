-- Laws of words of literals and of circuits.
use Rattle.std.specs.Prelude.{◌≡◌, ℕ, ◌+◌, ◌*◌, ◌^◌, ◌<◌, ◌++◌, List, [], ◌∷◌, length, Bool, true, false, nat_eq, ◌||◌, slice_index_or}
use Rattle.std.specs.Int.{bit_at}
use Rattle.civl_cnf.specs.Literal.{Literal, truth_of}
use Rattle.civl_cnf.specs.ClauseSet.{ClauseSet, Satisfies}
use Rattle.civl_cnf.specs.Gates.{Extends, bit}
use Rattle.civl_circuits.specs.Circuits.{number, blank, MakesWord}

-- the variable or its negation
abbrev pub variable : ℕ → Literal
variable i = record { variable = i; positive = true }

abbrev pub negated : ℕ → Literal
negated i = record { variable = i; positive = false }

-- Where variables 0 and 2 alone are true, the word of variable 0, the negation of variable 2 and variable 2, the lowest bit first, is 5, and that of the negations of 0 and 1 is 2.
pub record NumbersOfWords : Type 0 where
  pub five : number (λ i. nat_eq i 0 || nat_eq i 2) (variable 0 ∷ negated 2 ∷ variable 2 ∷ []) ≡ 5
  pub two : number (λ i. nat_eq i 0 || nat_eq i 2) (negated 0 ∷ negated 1 ∷ []) ≡ 2
  pub none : number (λ i. true) [] ≡ 0

-- a bit of a word's number is the truth value of its literal
abbrev pub BitsAreLiterals : Type 0
BitsAreLiterals = (v : ℕ → Bool) (word : List Literal) (j : ℕ) → j < length word → bit_at (number v word) j ≡ bit (truth_of v (slice_index_or word j blank))

-- a word's number has as many bits as the word has literals
abbrev pub NumbersFit : Type 0
NumbersFit = (v : ℕ → Bool) (word : List Literal) → number v word < 2 ^ length word

-- the number of a word above another
abbrev pub WordsJoin : Type 0
WordsJoin = (v : ℕ → Bool) (low high : List Literal) → number v (low ++ high) ≡ number v low + 2 ^ length low * number v high

-- each set of clauses extends itself, and what extends an extension extends the first
abbrev pub ExtendsItself : Type 0
ExtendsItself = (set : ClauseSet) → Extends set set

abbrev pub ExtendsFurther : Type 0
ExtendsFurther = (first second third : ClauseSet) → Extends first second → Extends second third → Extends first third

-- a word keeps its value in all that extends its clauses
abbrev pub WordsStay : Type 0
WordsStay = (old new later : ClauseSet) (word : List Literal) (width cost : ℕ) (value : (ℕ → Bool) → ℕ) → MakesWord old new word width cost value → Extends new later → (v : ℕ → Bool) → Satisfies v later.clauses → number v word ≡ value v
