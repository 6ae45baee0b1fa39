-- A prover that splits on variables, and what stands at each of its steps.
use Rattle.std.specs.Prelude.{ℕ, ◌+◌, ◌<◌, ◌≤◌, List, [], ◌∷◌, ◌++◌, Bool, true, false, IsFalse, Contains, if◌then◌else◌, length, take, slice_index_or, suc, zero}
use Rattle.civl_cnf.specs.Literal.{Literal, opposite}
use Rattle.civl_cnf.specs.ClauseSet.{ClauseSet}
use Rattle.civl_units.specs.Propagation.{GivesConflict}
use Rattle.civl_rup.specs.Rup.{HaveRup, Refutes}
use Rattle.civl_portfolio.specs.Attempt.{MakesTrue}
use Rattle.civl_portfolio.specs.declared.attempt.Attempt.{Attempt}
use Rattle.civl_portfolio.specs.declared.attempt.Attempt.TheVariants.{Unsat, Sat, GaveUp, Memory}
use Rattle.civl_provers.specs.Branch.{IsBranch, IsUndecided}

-- to how many choices it splits, and its counts
pub record SplitterState : Type 0 where
  pub depth : ℕ
  pub asked : ℕ
  pub lacks : ℕ

-- What stands between two steps: each clause of the log has reverse unit propagation, and where a choice was turned, the log has the clause of its other side. A variable is made false on the first side, by its positive literal, and true on the second.
pub record IsSplit (set : ClauseSet) (falses : List Literal) (log : List (List Literal)) : Type 0 where
  pub branch : IsBranch set falses
  pub rup : HaveRup set log (length log)
  pub turned : (i : ℕ) (d : Literal) → i < length falses → IsFalse (slice_index_or falses i d).positive → Contains log (take i falses ++ opposite (slice_index_or falses i d) ∷ [])

-- what stands, and the branch is refuted by what was learned
pub record IsRefuted (set : ClauseSet) (falses : List Literal) (log : List (List Literal)) : Type 0 where
  pub split : IsSplit set falses log
  pub conflict : GivesConflict (set.clauses ++ log) falses

-- how many nodes a full tree of this height has
abbrev pub nodes : ℕ → ℕ
nodes zero = 1
nodes (suc n) = nodes n + nodes n + 1

-- how many nodes are still to be visited from this branch on, of a full tree of this height
abbrev pub left : ℕ → List Literal → ℕ
left n [] = nodes n
left zero (l ∷ falses) = 1
left (suc n) (l ∷ falses) = (if l.positive then nodes n else 0) + left n falses

-- after a branch was refuted: the log refutes the clause set, or another branch is next, from which fewer nodes are left
abbrev pub AfterRefuted : ClauseSet → List Literal → List (List Literal) → Bool → Type 0
AfterRefuted set falses log true = Refutes set log
AfterRefuted set falses log false = IsSplit set falses log

abbrev pub FewerLeft : List Literal → List Literal → Type 0
FewerLeft old new = (n : ℕ) → length old ≤ n → (length new ≤ n) × (left n new < left n old)

-- what splitting answers
abbrev pub SplitSays : ClauseSet → ℕ → Attempt → Type 0
SplitSays set depth (Unsat log) = Refutes set log
SplitSays set depth (Sat bits) = MakesTrue set bits
SplitSays set depth GaveUp = (falses : List Literal) × IsUndecided set depth falses
SplitSays set depth Memory = ⊥
