use Rattle.std.proofs.Common.{◌≡◌, drop, map}
use Rattle.civl_linear.specs.Held.{holds}
use Rattle.civl_subjects.proofs.linearity.holds.Given as goal

abbrev pub invariant-loop-at : goal.invariant-loop-at
invariant-loop-at l =
    holds (map (λ name. name.now) (drop l.at l.names)) (drop l.at l.held) l.name
    ≡ holds (map (λ name. name.now) l.fn.names) l.fn.held l.fn.name
