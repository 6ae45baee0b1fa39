use Rattle.std.proofs.Common.{◌≡◌, drop}
use Rattle.civl_linear.specs.Held.{covers}
use Rattle.civl_linear.proofs.flags.covers.Given as goal

abbrev pub invariant-loop-at : goal.invariant-loop-at
invariant-loop-at l = covers (drop l.at l.one-items) (drop l.at l.others) ≡ covers l.fn.first l.fn.second
