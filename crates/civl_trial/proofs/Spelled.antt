-- Copies are spelled as a spinlock and a counter, with the copy's number behind the names.
use Rattle.std.proofs.Common.{refl}
use Rattle.std.specs.Fmt.{digits}
use Rattle.civl_tree.proofs.Trees.{of_trees}
use Rattle.civl_trial.specs.Laws.{CopiesAreSpelled, OneCopyIsSpelled}

pub copies_are_spelled : CopiesAreSpelled
copies_are_spelled copy = (refl, simp (of_trees), simp (of_trees), simp (of_trees), simp (of_trees))

pub one_copy_is_spelled : OneCopyIsSpelled
unfolding digits
one_copy_is_spelled = (simp (of_trees), simp (of_trees))
