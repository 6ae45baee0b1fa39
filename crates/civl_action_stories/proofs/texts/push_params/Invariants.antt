use Rattle.std.proofs.Common.{◌≡◌, ◌++◌, drop}
use Rattle.civl_tree.specs.rules.Names.{param_names}
use Rattle.civl_action_stories.specs.Actors.{equations}
use Rattle.civl_action_stories.proofs.texts.push_params.Given as goal

abbrev pub invariant-loop-at : goal.invariant-loop-at
invariant-loop-at l =
    l.texts.items ++ equations (param_names (drop l.at l.params)) (drop l.at l.values) ≡ l.fn.texts.items ++ equations (param_names l.params) l.values
