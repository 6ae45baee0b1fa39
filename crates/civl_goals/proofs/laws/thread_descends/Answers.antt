use Rattle.std.proofs.Common.{refl}
use Rattle.civl_tree.proofs.Layers.{layers}
use Rattle.civl_tree.specs.rules.Rules.{each_place, numbers_where}
use Rattle.civl_goals.proofs.laws.thread_descends.Goals as goal

pub returns : goal.returns
unfolding each_place numbers_where
returns c = (refl, simp layers)
