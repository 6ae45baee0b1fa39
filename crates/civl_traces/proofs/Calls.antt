-- What a call means, by the action that is found.
use Rattle.std.proofs.Common.{◌≡◌, Some}
use Rattle.civl_tree.specs.declared.action.Action.{Action}
use Rattle.civl_meaning.specs.Meaning.{Meaning, Does, Runs, Missing}
use Rattle.civl_conditions.specs.paths.Choices.{action_meant}

pub does : (m : Meaning) (a : Action) → Some a ≡ action_meant m → Does a ≡ m
does (Does b) a e = cc
does (Runs number proc) a e = cc
does Missing a e = cc
