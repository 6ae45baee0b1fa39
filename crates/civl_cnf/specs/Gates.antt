-- Gates: new variables that clauses define (Tseitin, "On the complexity of derivation in propositional calculus", 1968).
use Rattle.std.specs.Prelude.{◌≡◌, ℕ, ◌+◌, ◌*◌, ◌<◌, ◌≤◌, List, ◌++◌, length, Bool, true, false, not, if◌then◌else◌}
use Rattle.civl_cnf.specs.Literal.{Literal, truth_of}
use Rattle.civl_cnf.specs.ClauseSet.{ClauseSet, Satisfies}

-- two assignments are the same on the variables below a number
abbrev pub Agree : ℕ → (ℕ → Bool) → (ℕ → Bool) → Type 0
Agree n v w = (i : ℕ) → i < n → v i ≡ w i

-- The new clause set has all old clauses. Each assignment of the old variables that makes the old clauses true has exactly one extension to the new variables that makes the new clauses true.
pub record Extends (old new : ClauseSet) : Type 0 where
  pub added : List (List Literal)
  pub clauses : new.clauses ≡ old.clauses ++ added
  pub variables : old.variables ≤ new.variables
  -- at most eight clauses for each new variable
  pub few : length added + 8 * old.variables ≤ 8 * new.variables
  pub some : (v : ℕ → Bool) → Satisfies v old.clauses → (w : ℕ → Bool) × Agree old.variables v w × Satisfies w new.clauses
  pub one : (v w : ℕ → Bool) → Satisfies v new.clauses → Satisfies w new.clauses → Agree old.variables v w → Agree new.variables v w

-- One variable was added, and wherever the new clauses are true the output has this value.
pub record IsGate (old new : ClauseSet) (output : Literal) (value_under : (ℕ → Bool) → Bool) : Type 0 where
  pub extends : Extends old new
  pub variables : new.variables ≡ old.variables + 1
  pub below : output.variable < new.variables
  pub value : (v : ℕ → Bool) → Satisfies v new.clauses → truth_of v output ≡ value_under v

abbrev pub bit : Bool → ℕ
bit true = 1
bit false = 0

-- A full adder: two variables were added, and wherever the new clauses are true, sum and carry are the two bits of how many inputs are true.
pub record IsAdder (old new : ClauseSet) (a b c sum carry : Literal) : Type 0 where
  pub extends : Extends old new
  pub variables : new.variables ≡ old.variables + 2
  pub sum_below : sum.variable < new.variables
  pub carry_below : carry.variable < new.variables
  pub count : (v : ℕ → Bool) → Satisfies v new.clauses → bit (truth_of v sum) + 2 * bit (truth_of v carry) ≡ bit (truth_of v a) + bit (truth_of v b) + bit (truth_of v c)

-- exactly one of the two
abbrev pub xor : Bool → Bool → Bool
xor a b = if a then not b else b

-- at least two of the three
abbrev pub majority : Bool → Bool → Bool → Bool
majority a b c = if a then (if b then true else c) else (if b then c else false)

-- one variable more, with clauses on it
abbrev pub with_variable : ClauseSet → List (List Literal) → ClauseSet
with_variable set added = record { variables = set.variables + 1; clauses = set.clauses ++ added }
