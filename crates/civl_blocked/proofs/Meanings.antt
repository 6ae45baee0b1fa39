-- Actions that calls mean.
use Rattle.std.proofs.Common.{◌≡◌, refl, Option, None, Some}
use Rattle.civl_tree.specs.declared.action.Action.{Action}
use Rattle.civl_meaning.specs.Meaning.{meaning_of_action}
use Rattle.civl_conditions.specs.paths.Choices.{action_meant}

pub action_is : (o : Option Action) → o ≡ action_meant (meaning_of_action o)
action_is None = refl
action_is (Some action) = refl
