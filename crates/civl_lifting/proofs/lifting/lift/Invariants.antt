use Rattle.std.proofs.Common.{◌≤◌, length}
use Rattle.civl_meaning.specs.Layers.{program_at}
use Rattle.civl_lifting.specs.Lifted.{FailsBy}
use Rattle.civl_lifting.proofs.lifting.lift.Given as goal

abbrev pub invariant-loop-layer : goal.invariant-loop-layer
invariant-loop-layer l = record {
  fails : FailsBy (program_at l.src l.layer) l.store l.lifted;
  few : length l.lifted ≤ length l.moves;
}
