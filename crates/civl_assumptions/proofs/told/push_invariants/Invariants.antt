use Rattle.std.proofs.Common.{◌≡◌, ◌++◌, drop}
use Rattle.civl_conditions.specs.Steps.{each_at}
use Rattle.civl_assumptions.specs.inner.Told.{invariant_lines, step_lines}
use Rattle.civl_assumptions.proofs.told.push_invariants.Given as goal

abbrev pub invariant-loop-place : goal.invariant-loop-place
invariant-loop-place l =
    l.lines.items ++ each_at (invariant_lines l.program l.step) l.place (drop l.place l.invariants)
    ≡ l.fn.lines.items ++ step_lines l.fn.program l.step
