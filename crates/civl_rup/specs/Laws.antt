-- Laws of reverse unit propagation.
use Rattle.std.specs.Prelude.{◌≢◌, ◌↔◌, ℕ, List, [], Bool, All, Contains, ◌<◌, ◌++◌, length, take, slice_index_or}
use Rattle.civl_cnf.specs.Literal.{Literal}
use Rattle.civl_cnf.specs.ClauseSet.{ClauseSet, SatisfiesClause, Satisfies}
use Rattle.civl_units.specs.Propagation.{Holds, HasConflict}
use Rattle.civl_units.specs.Laws.{set_of, IsRun, IsComplete}
use Rattle.civl_rup.specs.Rup.{HasRup, IsNew, IsNewBy, Spends}

-- the literals of a clause other than this one
abbrev pub AreOthers : List Literal → Literal → List Literal → Type 0
AreOthers clause l others = (m : Literal) → Contains others m ↔ (Contains clause m × (m ≢ l))

-- a complete run from the other literals of a clause shows whether it is new by this literal: there is no conflict, and the literal isn't true
abbrev pub CompleteRunShowsNew : Type 0
CompleteRunShowsNew = (clauses : List (List Literal)) (clause : List Literal) (l : Literal) (others run : List Literal) → Contains clause l → AreOthers clause l others → IsRun clauses others run → IsComplete clauses others run → IsNewBy clauses clause l ↔ ((HasConflict (set_of run) clauses → ⊥) × (Holds (set_of run) l → ⊥))

-- a clause with reverse unit propagation is true wherever the clauses are
abbrev pub RupIsEntailed : Type 0
RupIsEntailed = (variables : ℕ) (clauses : List (List Literal)) (clause : List Literal) → HasRup variables clauses clause → (v : ℕ → Bool) → Satisfies v clauses → SatisfiesClause v clause

-- where a clause is new over others, none of these is a subset of it
abbrev pub NewIsNoSuperset : Type 0
NewIsNoSuperset = (clauses : List (List Literal)) (clause : List Literal) → IsNew clauses clause → All (λ other. All (Contains clause) other → ⊥) clauses

-- no clause of a spent log has a clause of the set or an earlier one as a subset, so none is a copy or a weaker form of what was there
abbrev pub SpentIsNoSuperset : Type 0
SpentIsNoSuperset = (set : ClauseSet) (log : List (List Literal)) (count : ℕ) → Spends set log count → (i : ℕ) → i < length log → All (λ other. All (Contains (slice_index_or log i [])) other → ⊥) (set.clauses ++ take i log)
