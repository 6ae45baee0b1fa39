use Rattle.std.proofs.Common.{◌≡◌, drop}
use Rattle.civl_clashes.specs.Losses.{made}
use Rattle.civl_clashes.proofs.carried.made.Given as goal

abbrev pub invariant-loop-at : goal.invariant-loop-at
invariant-loop-at l = made l.carrier (drop l.at l.permissions) l.incoming ≡ made l.carrier l.permissions l.incoming
