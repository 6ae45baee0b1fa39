use Rattle.civl_tree.proofs.Layers.{layers}
use Rattle.civl_goals.specs.Listed.{goals}
use Rattle.civl_goals.specs.Variables.{variables}
use Rattle.civl_goals.proofs.laws.read_variables.Goals as goal

pub returns : goal.returns
unfolding goals variables
returns c = simp layers
