use Rattle.std.proofs.Common.{◌≡◌, drop, map}
use Rattle.civl_linear.specs.Held.{holds}
use Rattle.civl_linear.proofs.places.holds.Given as goal

abbrev pub invariant-loop-at : goal.invariant-loop-at
invariant-loop-at l = holds (map (λ name. name.now) (drop l.at l.names)) (drop l.at l.flags) l.name ≡ holds (map (λ name. name.now) l.fn.names) l.fn.held l.fn.name
