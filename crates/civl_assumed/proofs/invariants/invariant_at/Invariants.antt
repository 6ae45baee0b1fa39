use Rattle.std.specs.Prelude.{◌≡◌}
use Rattle.civl_conditions.specs.Invariants.{invariant_at}
use Rattle.civl_assumed.proofs.Counting.{from_here}
use Rattle.civl_assumed.proofs.invariants.invariant_at.Given as goal

abbrev pub invariant-loop-invariant : goal.invariant-loop-invariant
invariant-loop-invariant l = from_here l.fn.step l.invariant-items l.invariant-index l.left ≡ invariant_at l.fn.program l.fn.step l.fn.place
