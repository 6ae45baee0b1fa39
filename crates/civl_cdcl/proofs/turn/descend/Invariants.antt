use Rattle.std.proofs.Common.{◌≡◌, length}
use Rattle.civl_units.specs.Trail.{open_count}
use Rattle.civl_propagation.specs.Engine.{EndsBy}
use Rattle.civl_cdcl.proofs.turn.descend.Given as goal

abbrev pub invariant-loop-ended : goal.invariant-loop-ended
invariant-loop-ended l = record {
  clauses : l.engine.clauses ≡ l.fn.engine.clauses;
  size : length l.engine.trail.marks ≡ length l.fn.engine.trail.marks;
  ends : EndsBy l.engine l.ended;
}

abbrev pub decreases-loop-ended : goal.decreases-loop-ended
decreases-loop-ended l = open_count l.engine.trail.marks
