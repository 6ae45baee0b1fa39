use Rattle.civl_yields.proofs.Examples.{examples}
use Rattle.civl_tree.specs.rules.Rules.{each_place, places_of}
use Rattle.civl_yields.proofs.laws.spawns_of_flag.Goals as goal

pub returns : goal.returns
unfolding each_place places_of
returns c = (simp examples, simp examples)
