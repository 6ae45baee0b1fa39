use Rattle.civl_linear.proofs.Examples.{examples}
use Rattle.civl_tree.specs.rules.Rules.{each_place, places_of}
use Rattle.civl_linear.proofs.laws.held_at_cuts.Goals as goal

pub returns : goal.returns
unfolding each_place places_of
returns c = (simp examples, simp examples)
