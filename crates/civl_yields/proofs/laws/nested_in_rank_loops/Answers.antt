use Rattle.std.proofs.Common.{refl}
use Rattle.civl_yields.proofs.Examples.{examples}
use Rattle.civl_tree.specs.rules.Rules.{each_place, places_of}
use Rattle.civl_yields.proofs.laws.nested_in_rank_loops.Goals as goal

pub returns : goal.returns
unfolding each_place places_of
returns c = (simp examples, simp examples, simp examples, simp examples, simp examples, refl)
