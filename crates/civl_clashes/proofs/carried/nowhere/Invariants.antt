use Rattle.std.proofs.Common.{◌≡◌, drop}
use Rattle.civl_clashes.specs.Losses.{nowhere}
use Rattle.civl_clashes.proofs.carried.nowhere.Given as goal

abbrev pub invariant-loop-at : goal.invariant-loop-at
invariant-loop-at l = nowhere (drop l.at l.carried) l.incoming ≡ nowhere l.carried l.incoming
