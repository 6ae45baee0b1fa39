use Rattle.std.proofs.Common.{◌≡◌, ◌++◌, ◌≤◌, ◌-◌, List, length}
use Rattle.civl_meaning.specs.declared.config.Move.{Move}
use Rattle.civl_blocked.specs.inner.Completed.{OfferedOn}
use Rattle.civl_blocked.proofs.completing.complete.Given as goal

abbrev pub invariant-loop-added : goal.invariant-loop-added
invariant-loop-added l = record {
  added : l.added ≤ l.steps;
  steps : List Move;
  moves_are : l.moves.items ≡ l.fn.moves.items ++ steps;
  many : length steps ≡ l.added;
  offered : OfferedOn l.ground l.thread steps l.fn.end l.config;
}

abbrev pub decreases-loop-added : goal.decreases-loop-added
decreases-loop-added l = l.steps - l.added
