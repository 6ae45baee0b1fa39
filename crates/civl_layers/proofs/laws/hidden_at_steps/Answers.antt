use Rattle.civl_tree.proofs.Layers.{layers}
use Rattle.civl_tree.specs.rules.Rules.{numbers_where, each_place, places_of}
use Rattle.civl_layers.proofs.laws.hidden_at_steps.Goals as goal

pub returns : goal.returns
unfolding numbers_where each_place places_of
returns c = (simp layers, simp layers, simp layers, simp layers, simp layers, simp layers, simp layers, simp layers, simp layers, simp layers, simp layers, simp layers, simp layers)
