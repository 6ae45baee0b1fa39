use Rattle.std.proofs.Common.{◌≡◌, ◌++◌, drop, flat_map}
use Rattle.civl_conditions.specs.inner.Placed.{yield_at}
use Rattle.civl_conditions.proofs.listing.push_yields.Given as goal

abbrev pub invariant-loop-place : goal.invariant-loop-place
invariant-loop-place l = l.list ++ flat_map yield_at (drop l.place-index l.places) ≡ l.fn.list ++ flat_map yield_at l.places
