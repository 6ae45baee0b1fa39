use Rattle.civl_tree.proofs.Layers.{layers}
use Rattle.civl_path_stories.specs.Around.{around_among}
use Rattle.civl_path_stories.proofs.laws.worked_around.Goals as goal

pub returns : goal.returns
unfolding around_among
returns c = (simp layers, simp layers, simp layers, simp layers, simp layers, simp layers)
