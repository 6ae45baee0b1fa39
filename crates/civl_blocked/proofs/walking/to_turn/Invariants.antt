use Rattle.std.proofs.Common.{◌≡◌, ◌++◌, length}
use Rattle.civl_reduction.specs.gathering.Gathered.{AreEarly}
use Rattle.civl_blocked.specs.inner.Segments.{over, place_on, FailsTo}
use Rattle.civl_blocked.proofs.walking.to_turn.Given as goal

abbrev pub invariant-loop-chosen : goal.invariant-loop-chosen
invariant-loop-chosen l = record {
  split : l.fn.rest.items ≡ l.moves.items ++ l.rest.items;
  early : AreEarly (over l.ground) (place_on l.ground) l.moves.items l.from l.config;
  fails : FailsTo (over l.ground) l.rest.items l.config;
}

abbrev pub decreases-loop-chosen : goal.decreases-loop-chosen
decreases-loop-chosen l = length l.rest.items
