use Rattle.std.proofs.Common.{◌≡◌, ◌≤◌, ◌+◌, ◌++◌, drop, length}
use Rattle.civl_traces.specs.Told.{changes}
use Rattle.civl_traces.proofs.changing.push_changes.Given as goal

abbrev pub invariant-loop-value : goal.invariant-loop-value
invariant-loop-value l =
    (l.at ≡ l.value-index) × (l.at ≤ length l.after) × (l.list ++ changes (l.first + l.at) (drop l.at l.before) (drop l.at l.after) ≡ l.initial.list ++ changes l.first l.before l.after)
