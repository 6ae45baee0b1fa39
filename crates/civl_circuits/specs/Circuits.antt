-- Circuits over words: lists of literals, the lowest bit first, and what clauses make of them (Tseitin, "On the complexity of derivation in propositional calculus", 1968).
use Rattle.std.specs.Prelude.{◌≡◌, ℕ, ◌+◌, ◌*◌, ◌<◌, ◌≤◌, List, [], ◌∷◌, length, Bool, false, IsTrue}
use Rattle.civl_cnf.specs.Literal.{Literal, truth_of}
use Rattle.civl_cnf.specs.ClauseSet.{ClauseSet, IsBelow, Satisfies}
use Rattle.civl_cnf.specs.Gates.{Extends, bit}

-- the number that the bits of a word are under an assignment
abbrev pub number : (ℕ → Bool) → List Literal → ℕ
number v [] = 0
number v (l ∷ ls) = bit (truth_of v l) + 2 * number v ls

-- a literal that is true wherever the clauses are
pub record IsOne (set : ClauseSet) (one : Literal) : Type 0 where
  pub below : one.variable < set.variables
  pub always : (v : ℕ → Bool) → Satisfies v set.clauses → IsTrue (truth_of v one)

-- variables of which nothing is said, and one more, a literal of which is the only clause: it is true wherever the clauses are
pub record IsStart (inputs : ℕ) (set : ClauseSet) (one : Literal) : Type 0 where
  pub extends : Extends (record { variables = inputs; clauses = [] }) set
  pub variables : set.variables ≡ inputs + 1
  pub clauses : set.clauses ≡ (one ∷ []) ∷ []
  pub constant : IsOne set one

-- The word is a constant: it has so many bits, and is this number under every assignment at which `one` is true.
pub record IsConstantWord (one : Literal) (word : List Literal) (width value : ℕ) : Type 0 where
  pub size : length word ≡ width
  pub below : (n : ℕ) → one.variable < n → IsBelow n word
  pub number_is : (v : ℕ → Bool) → IsTrue (truth_of v one) → number v word ≡ value

-- A word of so many bits: at most `cost` variables were added, and wherever the new clauses are true, this is the word's number.
pub record MakesWord (old new : ClauseSet) (word : List Literal) (width cost : ℕ) (value_under : (ℕ → Bool) → ℕ) : Type 0 where
  pub extends : Extends old new
  pub variables : new.variables ≤ old.variables + cost
  pub size : length word ≡ width
  pub below : IsBelow new.variables word
  pub value : (v : ℕ → Bool) → Satisfies v new.clauses → number v word ≡ value_under v

-- A literal: at most `cost` variables were added, and wherever the new clauses are true, this is its truth value.
pub record MakesBit (old new : ClauseSet) (output : Literal) (cost : ℕ) (value_under : (ℕ → Bool) → Bool) : Type 0 where
  pub extends : Extends old new
  pub variables : new.variables ≤ old.variables + cost
  pub below : output.variable < new.variables
  pub value : (v : ℕ → Bool) → Satisfies v new.clauses → truth_of v output ≡ value_under v

-- what an element past the end of a word reads as
abbrev pub blank : Literal
blank = record { variable = 0; positive = false }
