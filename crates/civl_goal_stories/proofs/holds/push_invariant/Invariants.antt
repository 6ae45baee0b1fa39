use Rattle.std.proofs.Common.{◌≡◌, ◌++◌, drop}
use Rattle.civl_conditions.specs.Steps.{each_at}
use Rattle.civl_goal_stories.specs.GoalStories.{hold_parts}
use Rattle.civl_goal_stories.specs.Places.{hold_start}
use Rattle.civl_goal_stories.proofs.holds.push_invariant.Given as goal

abbrev pub invariant-loop-hold : goal.invariant-loop-hold
invariant-loop-hold l =
    (l.lines.items ++ each_at (hold_parts l.outline l.store) l.hold-index (drop l.hold-index l.hold-items)
    ≡ l.fn.lines.items ++ each_at (hold_parts l.outline l.store) 0 l.hold-items)
    × (l.at ≡ hold_start l.outline l.hold-index)
