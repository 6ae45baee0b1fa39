use Rattle.civl_tree.proofs.Numbers as law
use Rattle.civl_tree.proofs.laws.spelling.sizes_are_counts.Goals as goal

pub returns : goal.returns
returns c = law.sizes_are_counts
