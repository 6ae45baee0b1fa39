use Rattle.std.proofs.Common.{◌≡◌, ◌+◌, ◌++◌, drop}
use Rattle.civl_firing.specs.Names.{names_of}
use Rattle.civl_goal_stories.specs.Frames.{changes}
use Rattle.civl_goal_stories.proofs.values.push_changes.Given as goal

abbrev pub invariant-loop-at : goal.invariant-loop-at
invariant-loop-at l =
    l.texts.items ++ changes (names_of l.names) (l.first + l.at) (drop l.at l.before) (drop l.at l.after)
    ≡ l.fn.texts.items ++ changes (names_of l.names) l.first l.before l.after
