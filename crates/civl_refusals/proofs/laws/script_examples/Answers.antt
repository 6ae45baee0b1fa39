use Rattle.civl_tree.proofs.Trees.{of_trees}
use Rattle.civl_refusals.proofs.laws.script_examples.Goals as goal

pub returns : goal.returns
returns c = simp (of_trees)
