use Rattle.std.proofs.Common.{◌≡◌, ◌++◌, drop}
use Rattle.civl_conditions.specs.inner.Placed.{blocks_from}
use Rattle.civl_conditions.proofs.listing.push_block.Given as goal

abbrev pub invariant-loop-target : goal.invariant-loop-target
invariant-loop-target l = l.list ++ blocks_from l.step (drop l.target-index l.targets) l.place ≡ l.fn.list ++ blocks_from l.step l.targets l.place
