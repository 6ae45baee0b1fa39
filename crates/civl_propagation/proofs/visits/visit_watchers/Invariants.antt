use Rattle.std.proofs.Common.{◌-◌, length}
use Rattle.civl_propagation.specs.Propagation.{Grows}
use Rattle.civl_propagation.specs.Watches.{watchers, IsVisiting}
use Rattle.civl_propagation.proofs.visits.visit_watchers.Given as goal

abbrev pub invariant-loop-at : goal.invariant-loop-at
invariant-loop-at l = record {
  grows : Grows l.fn.trail l.trail;
  visiting : IsVisiting l.trail l.clauses l.watches l.falsified l.step l.at;
}

abbrev pub decreases-loop-at : goal.decreases-loop-at
decreases-loop-at l = length (watchers l.watches.lists l.falsified) - l.at
