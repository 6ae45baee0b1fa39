use Rattle.std.proofs.Common.{◌≡◌, ◌+◌, ◌++◌, drop}
use Rattle.civl_firing.specs.Names.{names_of}
use Rattle.civl_goal_stories.specs.Frames.{value_texts}
use Rattle.civl_goal_stories.proofs.values.push_values.Given as goal

abbrev pub invariant-loop-at : goal.invariant-loop-at
invariant-loop-at l =
    l.texts.items ++ value_texts (names_of l.names) (l.first + l.at) (drop l.at l.values)
    ≡ l.fn.texts.items ++ value_texts (names_of l.names) l.first l.values
