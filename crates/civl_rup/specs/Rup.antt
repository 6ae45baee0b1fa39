-- Reverse unit propagation (Goldberg and Novikov, "Verification of proofs of unsatisfiability for CNF formulas", 2003; Van Gelder, "Verifying RUP proofs of propositional unsatisfiability", 2008).
use Rattle.std.specs.Prelude.{◌≡◌, ◌≢◌, ◌⊎◌, ℕ, ◌<◌, List, [], ◌++◌, Bool, All, AllPairs, Contains, length, take, slice_index_or}
use Rattle.civl_cnf.specs.Literal.{Literal}
use Rattle.civl_cnf.specs.ClauseSet.{ClauseSet, IsBelow, Satisfies}
use Rattle.civl_units.specs.Propagation.{Holds, Fails, IsClosed, HasConflict, GivesConflict}

-- no variable stands twice
abbrev pub HasEachOnce : List Literal → Type 0
HasEachOnce clause = AllPairs (λ l m. l.variable ≢ m.variable) clause

-- The clause has reverse unit propagation from the clauses, which are over so many variables.
pub record HasRup (variables : ℕ) (clauses : List (List Literal)) (clause : List Literal) : Type 0 where
  pub below : IsBelow variables clause
  pub once : HasEachOnce clause
  pub conflict : GivesConflict clauses clause

-- The clause is new over the clauses by one of its literals: making the other literals false and propagating units gives no conflict and doesn't make that literal true. The witness is a closed set in which the others are false. (An implied clause of this kind is called 1-empowering: Pipatsrisawat and Darwiche, "On the power of clause-learning SAT solvers with restarts", 2009.)
pub record IsNewBy (clauses : List (List Literal)) (clause : List Literal) (l : Literal) : Type 0 where
  pub there : Contains clause l
  pub set : ℕ → Bool → Bool
  pub others : All (λ m. (m ≡ l) ⊎ Fails set m) clause
  pub closed : IsClosed set clauses
  pub quiet : HasConflict set clauses → ⊥
  pub free : Holds set l → ⊥

abbrev pub IsNew : List (List Literal) → List Literal → Type 0
IsNew clauses clause = (l : Literal) × IsNewBy clauses clause l

-- each of the log's first clauses has reverse unit propagation from the clause set and the clauses before it
abbrev pub HaveRup : ClauseSet → List (List Literal) → ℕ → Type 0
HaveRup set log n = (i : ℕ) → i < n → HasRup set.variables (set.clauses ++ take i log) (slice_index_or log i [])

-- the log refutes the clause set
pub record Refutes (set : ClauseSet) (log : List (List Literal)) : Type 0 where
  pub rup : HaveRup set log (length log)
  pub empty : Contains log []

-- each clause of the log has reverse unit propagation, and none is empty
pub record HasRupAndNoEmpty (set : ClauseSet) (log : List (List Literal)) : Type 0 where
  pub rup : HaveRup set log (length log)
  pub none : Contains log [] → ⊥

-- the clause at this place is the log's first without reverse unit propagation
pub record IsFirstWithoutRup (set : ClauseSet) (log : List (List Literal)) (i : ℕ) : Type 0 where
  pub place : i < length log
  pub before : HaveRup set log i
  pub refused : HasRup set.variables (set.clauses ++ take i log) (slice_index_or log i []) → ⊥

-- The log spends so many clauses on the clause set: it has exactly so many, none is empty, each has reverse unit propagation from the clause set and the clauses before it and is new over them, and the empty clause has no reverse unit propagation from them all.
pub record Spends (set : ClauseSet) (log : List (List Literal)) (count : ℕ) : Type 0 where
  pub size : length log ≡ count
  pub none : Contains log [] → ⊥
  pub rup : HaveRup set log (length log)
  pub fresh : (i : ℕ) → i < length log → IsNew (set.clauses ++ take i log) (slice_index_or log i [])
  pub unrefuted : HasRup set.variables (set.clauses ++ log) [] → ⊥

-- no assignment makes all clauses true
abbrev pub IsUnsatisfiable : List (List Literal) → Type 0
IsUnsatisfiable clauses = (v : ℕ → Bool) → Satisfies v clauses → ⊥
