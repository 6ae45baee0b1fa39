use Rattle.civl_tree.proofs.Trees.{of_trees}
use Rattle.civl_annotations.proofs.Filling.{fill_at}
use Rattle.civl_annotations.proofs.laws.worker.Goals as goal

pub returns-clause-bare : goal.returns-clause-bare
returns-clause-bare c = simp (of_trees)

pub returns-clause-filled : goal.returns-clause-filled
returns-clause-filled c = simp (fill_at, of_trees)

pub returns-clause-begun : goal.returns-clause-begun
returns-clause-begun c = simp (fill_at, of_trees)
