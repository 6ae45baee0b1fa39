-- What lets worked examples compute.
use Rattle.civl_tree.proofs.Layers.{inner_is}
use Rattle.civl_tree.proofs.Trees.{decimal_digits, of_trees}
use Rattle.civl_subjects.proofs.Inner.{first_part_is}

pub ruleset computing = (first_part_is, inner_is, decimal_digits, of_trees)
