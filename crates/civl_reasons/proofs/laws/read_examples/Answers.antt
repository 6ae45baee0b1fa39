use Rattle.civl_tree.proofs.Trees.{of_trees}
use Rattle.civl_reasons.proofs.laws.read_examples.Goals as goal

pub returns : goal.returns
returns c = record { nested = simp (of_trees); no_name = simp (of_trees) }
