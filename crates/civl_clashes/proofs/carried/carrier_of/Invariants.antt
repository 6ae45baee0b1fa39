use Rattle.std.proofs.Common.{◌≡◌, drop}
use Rattle.civl_clashes.specs.Losses.{carrier_of}
use Rattle.civl_clashes.proofs.carried.carrier_of.Given as goal

abbrev pub invariant-loop-at : goal.invariant-loop-at
invariant-loop-at l = carrier_of l.permission (drop l.at l.carried) ≡ carrier_of l.permission (drop l.from l.carried)
