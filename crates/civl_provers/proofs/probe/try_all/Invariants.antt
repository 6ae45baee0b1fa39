use Rattle.std.proofs.Common.{◌≡◌, drop}
use Rattle.civl_provers.specs.Probe.{first_true}
use Rattle.civl_provers.proofs.probe.try_all.Given as goal

abbrev pub invariant-loop-bits : goal.invariant-loop-bits
invariant-loop-bits l = first_true l.cnf (drop l.bits-index l.tries) ≡ first_true l.cnf l.tries
