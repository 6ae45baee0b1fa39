use Rattle.civl_places.proofs.Feeds.{AreRead}
use Rattle.civl_places.proofs.position.position_at.Given as goal

abbrev pub invariant-loop-at : goal.invariant-loop-at
invariant-loop-at l = AreRead l.bytes l.at l.line l.start
