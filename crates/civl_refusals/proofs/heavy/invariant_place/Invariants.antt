use Rattle.std.proofs.Common.{◌≡◌}
use Rattle.civl_action_stories.specs.Starts.{invariant_place}
use Rattle.civl_action_stories.proofs.Placing.{from_here}
use Rattle.civl_refusals.proofs.heavy.invariant_place.Given as goal

abbrev pub invariant-loop-at : goal.invariant-loop-at
invariant-loop-at l = from_here l.fn.step l.invariants l.at l.left ≡ invariant_place l.fn.step l.invariants l.fn.number
