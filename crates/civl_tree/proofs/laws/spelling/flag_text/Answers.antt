use Rattle.std.specs.Fmt.{digits}
use Rattle.civl_tree.proofs.Trees.{of_trees}
use Rattle.civl_tree.proofs.laws.spelling.flag_text.Goals as goal

pub returns : goal.returns
unfolding digits
returns c = simp (of_trees)
