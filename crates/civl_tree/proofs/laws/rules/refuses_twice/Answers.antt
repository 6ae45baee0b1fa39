use Rattle.std.proofs.Common.{refl}
use Rattle.civl_tree.proofs.Layers.{layers}
use Rattle.civl_tree.specs.rules.Rules.{numbers_where, each_place, places_of}
use Rattle.civl_tree.proofs.laws.rules.refuses_twice.Goals as goal

pub returns : goal.returns
unfolding numbers_where each_place places_of
returns c = (refl, refl, refl, refl, refl, refl, refl, refl, refl, refl, refl, refl, refl, simp layers, simp layers)
