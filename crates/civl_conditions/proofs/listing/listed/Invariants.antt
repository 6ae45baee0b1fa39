use Rattle.std.proofs.Common.{◌≡◌, flat_map}
use Rattle.civl_conditions.specs.Steps.{steps_to}
use Rattle.civl_conditions.specs.Listed.{at_step}
use Rattle.civl_conditions.proofs.listing.listed.Given as goal

abbrev pub invariant-loop-below : goal.invariant-loop-below
invariant-loop-below l = l.found ≡ flat_map (at_step l.src) (steps_to l.below)
