use Rattle.std.proofs.Common.{◌≡◌, ◌++◌, drop}
use Rattle.civl_conditions.specs.Steps.{each_at}
use Rattle.civl_goal_stories.specs.Assumed.{hold_line}
use Rattle.civl_goal_stories.specs.Places.{hold_start}
use Rattle.civl_goal_stories.proofs.assumed.push_holds.Given as goal

abbrev pub invariant-loop-hold : goal.invariant-loop-hold
invariant-loop-hold l =
    (l.lines.items ++ each_at (hold_line l.outline) l.hold-index (drop l.hold-index l.hold-items)
    ≡ l.fn.lines.items ++ each_at (hold_line l.outline) 0 l.hold-items)
    × (l.at ≡ hold_start l.outline l.hold-index)
