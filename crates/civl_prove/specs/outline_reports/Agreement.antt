-- What may be found of one program and one outline twice: nothing that speaks against each other. Goals are searched in their order, so
-- a goal that isn't decided stands no later than one that fails.
use Rattle.std.specs.Prelude.{◌≡◌, ℕ, ◌≤◌, slice_get, Some, ⊤}
use Rattle.civl_tree.specs.declared.program.Program.{Program}
use Rattle.civl_outlines.specs.declared.outline.Outline.{Outline}
use Rattle.civl_verdicts.specs.declared.verdict.Verdict.TheVariants.{Accepted}
use Rattle.civl_verdicts.specs.judgements.Agreement.{VerdictsAgree}
use Rattle.civl_goals.specs.declared.goal.Goal.{Goal}
use Rattle.civl_goals.specs.Listed.{goals}
use Rattle.civl_prove.specs.declared.proved.Proved.{Proved}
use Rattle.civl_prove.specs.declared.proved.Proved.TheVariants.{All, Fails, Undecided}
use Rattle.civl_prove.specs.declared.outline_reports.proving.Proving.{Proving}
use Rattle.civl_prove.specs.declared.outline_reports.proving.Proving.TheVariants.{Note, Roots, Heavy, HeavyGoal, Judged, Decided}

-- the first goal has a place in the list up to that of the second
pub record StandsUpTo (program : Program) (outline : Outline) (first second : Goal) : Type 0 where
  pub place : ℕ
  pub there : slice_get (goals program outline) place ≡ Some first
  pub bound : ℕ
  pub ends : slice_get (goals program outline) bound ≡ Some second
  pub up_to : place ≤ bound

-- two that settle all say the same; beside the answer that all hold any goal may be open, and beside one that fails one up to it
abbrev pub ProvedAgree : Program → Outline → Proved → Proved → Type 0
ProvedAgree program outline (All count) (All other) = count ≡ other
ProvedAgree program outline (All count) (Fails goal values) = ⊥
ProvedAgree program outline (All count) (Undecided goal log) = ⊤
ProvedAgree program outline (Fails goal values) (All count) = ⊥
ProvedAgree program outline (Fails goal values) (Fails other others) = goal ≡ other
ProvedAgree program outline (Fails goal values) (Undecided other log) = StandsUpTo program outline other goal
ProvedAgree program outline (Undecided goal log) (All count) = ⊤
ProvedAgree program outline (Undecided goal log) (Fails other values) = StandsUpTo program outline goal other
ProvedAgree program outline (Undecided goal log) (Undecided other more) = ⊤

-- the same refusal; or verdicts that agree, and, where both are acceptance, answers on the goals that do
abbrev pub Agree : Program → Outline → Proving → Proving → Type 0
Agree program outline (Note number) (Note other) = number ≡ other
Agree program outline (Roots item statement) (Roots other at) = (item ≡ other) × (statement ≡ at)
Agree program outline (Heavy first) (Heavy other) = first ≡ other
Agree program outline (HeavyGoal goal) (HeavyGoal other) = goal ≡ other
Agree program outline (Judged verdict) (Judged other) = VerdictsAgree program verdict other
Agree program outline (Judged verdict) (Decided count proved) = VerdictsAgree program verdict (Accepted count)
Agree program outline (Decided count proved) (Judged verdict) = VerdictsAgree program (Accepted count) verdict
Agree program outline (Decided count proved) (Decided other found) = (count ≡ other) × ProvedAgree program outline proved found
Agree program outline proving other = ⊥
