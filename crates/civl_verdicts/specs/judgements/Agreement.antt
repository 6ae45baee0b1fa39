-- What two verdicts on one program may say: nothing against each other. Formulas are searched in an order: that a store is initial, and
-- then the violation of each condition in the order of the list. A verdict leaves one of them open, or settles all up to its end.
use Rattle.std.specs.Prelude.{◌≡◌, ℕ, ◌≤◌, slice_get, Option, None, Some, ⊤}
use Rattle.civl_tree.specs.declared.program.Program.{Program}
use Rattle.civl_conditions.specs.declared.condition.Condition.{Condition}
use Rattle.civl_conditions.specs.Listed.{conditions}
use Rattle.civl_verdicts.specs.declared.verdict.Verdict.{Verdict}
use Rattle.civl_verdicts.specs.declared.verdict.Verdict.TheVariants.{Accepted, Rejected, Undecided, NoInitial}

-- the first condition has a place in the list up to that of the second
pub record StandsUpTo (program : Program) (first second : Condition) : Type 0 where
  pub place : ℕ
  pub there : slice_get (conditions program) place ≡ Some first
  pub bound : ℕ
  pub ends : slice_get (conditions program) bound ≡ Some second
  pub up_to : place ≤ bound

-- the search for an initial store, or for values that violate this condition, comes no later than that for the second condition
abbrev pub IsSearchedBy : Program → Option Condition → Condition → Type 0
IsSearchedBy program None condition = ⊤
IsSearchedBy program (Some earlier) condition = StandsUpTo program earlier condition

-- Two that settle all say the same. Beside acceptance any search may be open; beside a rejection one up to that of its condition; and
-- beside the verdict that no store is initial the first alone.
abbrev pub VerdictsAgree : Program → Verdict → Verdict → Type 0
VerdictsAgree program (Accepted count) (Accepted other) = count ≡ other
VerdictsAgree program (Accepted count) (Undecided formula log) = ⊤
VerdictsAgree program (Undecided formula log) (Accepted count) = ⊤
VerdictsAgree program (Rejected counter) (Rejected other) = counter.condition ≡ other.condition
VerdictsAgree program (Rejected counter) (Undecided formula log) = IsSearchedBy program formula counter.condition
VerdictsAgree program (Undecided formula log) (Rejected counter) = IsSearchedBy program formula counter.condition
VerdictsAgree program NoInitial NoInitial = ⊤
VerdictsAgree program NoInitial (Undecided formula log) = formula ≡ None
VerdictsAgree program (Undecided formula log) NoInitial = formula ≡ None
VerdictsAgree program (Undecided formula log) (Undecided other more) = ⊤
VerdictsAgree program first second = ⊥
