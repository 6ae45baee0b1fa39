-- What a search answers.
use Rattle.std.specs.Prelude.{◌≡◌, ◌≢◌, ◌<◌, ◌≤◌, ◌++◌, ◌∷◌, [], ℕ, List, Bool, length, take, slice_index_or}
use Rattle.civl_cnf.specs.Literal.{Literal}
use Rattle.civl_cnf.specs.ClauseSet.{ClauseSet, Satisfies, assignment}
use Rattle.civl_rup.specs.Rup.{HasRup, IsNew, Refutes, Spends}
use Rattle.civl_cdcl.specs.declared.outcome.Outcome.{Outcome}
use Rattle.civl_cdcl.specs.declared.outcome.Outcome.TheVariants.{Sat, Unsat, Spent}

-- the bits, one for each variable, make the clause set true
pub record IsModel (set : ClauseSet) (bits : List Bool) : Type 0 where
  pub size : length bits ≡ set.variables
  pub truth : Satisfies (assignment bits) set.clauses

-- A clause that a search may learn from clauses over so many variables: it has reverse unit propagation from them, is new over them, and isn't empty.
pub record IsLearned (variables : ℕ) (clauses : List (List Literal)) (clause : List Literal) : Type 0 where
  pub rup : HasRup variables clauses clause
  pub fresh : IsNew clauses clause
  pub some : clause ≢ []

-- each of the log's first clauses was learned from the clause set and the clauses before it
abbrev pub HaveLearned : ClauseSet → List (List Literal) → ℕ → Type 0
HaveLearned set log n = (i : ℕ) → i < n → IsLearned set.variables (set.clauses ++ take i log) (slice_index_or log i [])

-- The log refutes the clause set. The empty clause is its last, and the clauses before it were learned and are at most so many.
pub record RefutesWithin (set : ClauseSet) (budget : ℕ) (log : List (List Literal)) : Type 0 where
  pub refutes : Refutes set log
  pub earlier : List (List Literal)
  pub last : log ≡ earlier ++ [] ∷ []
  pub few : length earlier ≤ budget
  pub learned : HaveLearned set earlier (length earlier)

-- The log spends the budget on the clause set, and one clause more can be learned.
pub record SpendsWhole (set : ClauseSet) (budget : ℕ) (log : List (List Literal)) : Type 0 where
  pub spends : Spends set log budget
  pub clause : List Literal
  pub more : IsLearned set.variables (set.clauses ++ log) clause

abbrev pub OutcomeSays : ClauseSet → ℕ → Outcome → Type 0
OutcomeSays set budget (Sat bits) = IsModel set bits
OutcomeSays set budget (Unsat log) = RefutesWithin set budget log
OutcomeSays set budget (Spent log) = SpendsWhole set budget log
