use Rattle.std.proofs.Common.{◌≡◌, ◌-◌, ◌≤◌, ◌++◌, drop, length}
use Rattle.civl_history.specs.History.{changes_from}
use Rattle.civl_history.proofs.changes.changed_values.Given as goal

abbrev pub invariant-loop-place : goal.invariant-loop-place
invariant-loop-place l = record {
  before : l.place ≤ length l.before;
  behind : l.place ≤ length l.after;
  told : l.changed.items ++ changes_from l.place (drop l.place l.before) (drop l.place l.after) ≡ changes_from 0 l.before l.after;
}

abbrev pub decreases-loop-place : goal.decreases-loop-place
decreases-loop-place l = length l.before - l.place
