use Rattle.std.proofs.Common.{◌≡◌, drop}
use Rattle.civl_clashes.specs.Losses.{shared}
use Rattle.civl_clashes.proofs.carried.shared.Given as goal

abbrev pub invariant-loop-at : goal.invariant-loop-at
invariant-loop-at l = shared l.carrier (drop l.at l.permissions) (drop l.from l.carried) ≡ shared l.carrier l.permissions (drop l.from l.carried)
