use Rattle.civl_tree.proofs.Trees.{of_trees}
use Rattle.civl_tree.proofs.laws.spelling.spinlock_is_spelled.Goals as goal

pub returns : goal.returns
returns c = (simp (of_trees), simp (of_trees))
