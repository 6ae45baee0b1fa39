use Rattle.std.proofs.Common.{◌≤◌, ◌-◌}
use Rattle.civl_cdcl.specs.inner.Analysis.{IsUnseen}
use Rattle.civl_cdcl.proofs.analysis.any_seen.Given as goal

abbrev pub invariant-loop-at : goal.invariant-loop-at
invariant-loop-at l = record { from : l.from ≤ l.at; to : l.at ≤ l.to; none : IsUnseen l.steps l.seen l.at l.to }

abbrev pub decreases-loop-at : goal.decreases-loop-at
decreases-loop-at l = l.at - l.from
