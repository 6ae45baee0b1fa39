-- Serves private functions: what propagation says of a branch.
use Rattle.std.specs.Prelude.{◌≡◌, ◌⊎◌, ℕ, ◌<◌, ◌≤◌, ◌+◌, ◌-◌, List, Bool, IsTrue, IsFalse, All, Any, Option, None, Some, length, slice_index_or}
use Rattle.civl_cnf.specs.Literal.{Literal}
use Rattle.civl_cnf.specs.ClauseSet.{ClauseSet}
use Rattle.civl_units.specs.Propagation.{Holds, Fails, IsClosed}
use Rattle.civl_units.specs.Marks.{marked, IsQuiet, IsIncluded}
use Rattle.civl_portfolio.specs.Attempt.{MakesTrue}
use Rattle.civl_provers.specs.Branch.{IsLeftOpen, IsUnsettled}
use Rattle.civl_provers.specs.declared.looking.Node.{Node}
use Rattle.civl_provers.specs.declared.looking.Node.TheVariants.{True, Open, Stuck}

-- The marks are what propagation makes true, and it met no conflict.
pub record IsPropagated (marks : List (Option Bool)) (set : ClauseSet) (falses : List Literal) : Type 0 where
  pub size : length marks ≡ set.variables
  pub fails : All (Fails (marked marks)) falses
  pub least : (s : ℕ → Bool → Bool) → All (Fails s) falses → IsClosed s set.clauses → IsIncluded (marked marks) s
  pub quiet : All (IsQuiet (marked marks)) set.clauses

-- the last variable without a value, or that there is none
abbrev pub LastOpen : List (Option Bool) → Option ℕ → Type 0
LastOpen marks (Some v) = (v < length marks) × (slice_index_or marks v None ≡ None) × ((w : ℕ) → v < w → w < length marks → slice_index_or marks w None ≡ None → ⊥)
LastOpen marks None = (v : ℕ) → v < length marks → slice_index_or marks v None ≡ None → ⊥

-- each variable from this one on has a value
abbrev pub HaveValuesFrom : List (Option Bool) → ℕ → Type 0
HaveValuesFrom marks n = (w : ℕ) → n ≤ w → w < length marks → slice_index_or marks w None ≡ None → ⊥

-- the variable behind that of the last choice, or the end of the variables where no choice was made
abbrev pub EndSays : ℕ → List Literal → ℕ → Type 0
EndSays variables falses n =
    ((length falses ≡ 0) × (n ≡ variables)) ⊎ ((0 < length falses) × ((d : Literal) → n ≡ (slice_index_or falses (length falses - 1) d).variable + 1))

-- What the marks say: these bits make the clauses true; or a choice may be made, and this variable is the last without a value; or none may be made, and some clause has no true literal.
abbrev pub JudgeSays : List (Option Bool) → ClauseSet → Bool → Node → Type 0
JudgeSays marks set may (True bits) = MakesTrue set bits
JudgeSays marks set may (Open v) = IsTrue may × LastOpen marks (Some v)
JudgeSays marks set may Stuck = IsFalse may × (All (λ clause. Any (Holds (marked marks)) clause) set.clauses → ⊥)

-- what is found at a branch that propagation doesn't refute: these bits make the clauses true, or this variable was left open, or it is neither refuted nor true
abbrev pub NodeSays : ClauseSet → List Literal → Node → Type 0
NodeSays set falses (True bits) = MakesTrue set bits
NodeSays set falses (Open v) = (v < set.variables) × IsLeftOpen set.clauses falses v
NodeSays set falses Stuck = IsUnsettled set falses
