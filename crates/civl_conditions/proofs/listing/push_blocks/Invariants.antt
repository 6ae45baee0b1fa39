use Rattle.std.proofs.Common.{◌≡◌, ◌++◌, drop, flat_map}
use Rattle.civl_conditions.specs.inner.Placed.{blocks_from}
use Rattle.civl_conditions.proofs.listing.push_blocks.Given as goal

abbrev pub invariant-loop-place : goal.invariant-loop-place
invariant-loop-place l = l.list ++ flat_map (blocks_from l.step l.targets) (drop l.place-index l.places) ≡ l.fn.list ++ flat_map (blocks_from l.step l.targets) l.places
