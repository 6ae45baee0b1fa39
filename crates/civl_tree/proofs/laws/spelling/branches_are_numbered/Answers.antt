use Rattle.civl_tree.proofs.Numbers as law
use Rattle.civl_tree.proofs.laws.spelling.branches_are_numbered.Goals as goal

pub returns : goal.returns
returns c = law.branches_are_numbered
