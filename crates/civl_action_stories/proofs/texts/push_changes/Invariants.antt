use Rattle.std.proofs.Common.{◌≡◌, ◌++◌, drop}
use Rattle.civl_action_stories.specs.Actors.{changes}
use Rattle.civl_action_stories.proofs.texts.push_changes.Given as goal

abbrev pub invariant-loop-at : goal.invariant-loop-at
invariant-loop-at l =
    l.texts.items ++ changes (drop l.at l.globals) (drop l.at l.before) (drop l.at l.after)
    ≡ l.fn.texts.items ++ changes l.globals l.before l.after
