use Rattle.std.proofs.Common.{◌≡◌, ◌<◌, ◌≤◌, ℕ, slice_index_or, None}
use Rattle.civl_cdcl.proofs.choice.scan.Given as goal

abbrev pub invariant-loop-variable : goal.invariant-loop-variable
invariant-loop-variable l = (v : ℕ) → l.from ≤ v → v < l.variable → slice_index_or l.marks v None ≡ None → ⊥
