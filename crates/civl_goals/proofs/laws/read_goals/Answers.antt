use Rattle.std.specs.Fmt.{digits}
use Rattle.civl_tree.proofs.Layers.{layers}
use Rattle.civl_goals.specs.Listed.{goals}
use Rattle.civl_goals.specs.Names.{goal_text}
use Rattle.civl_goals.proofs.laws.read_goals.Goals as goal

pub returns : goal.returns
unfolding digits goals goal_text
returns c = simp layers
