use Rattle.std.proofs.Common.{◌≡◌, ◌++◌, drop}
use Rattle.civl_firing.specs.Scope.{choice_names}
use Rattle.civl_action_stories.specs.Actors.{equations}
use Rattle.civl_action_stories.proofs.texts.push_choices.Given as goal

abbrev pub invariant-loop-at : goal.invariant-loop-at
invariant-loop-at l =
    l.texts.items ++ equations (choice_names (drop l.at l.choices)) (drop l.at l.values) ≡ l.fn.texts.items ++ equations (choice_names l.choices) l.values
