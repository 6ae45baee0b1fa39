-- What stands inside rank loops, statement by statement.
use Rattle.std.proofs.Common.{append_assoc, append-nil}
use Rattle.civl_tree.proofs.Trees.{of_trees}

pub ruleset insides = (of_trees, append_assoc, append-nil)
