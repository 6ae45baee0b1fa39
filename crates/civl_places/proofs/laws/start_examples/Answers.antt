use Rattle.std.proofs.Common.{refl}
use Rattle.civl_tree.proofs.Trees.{of_trees}
use Rattle.civl_places.proofs.Walking.{starts_is}
use Rattle.civl_places.proofs.laws.start_examples.Goals as goal

pub returns : goal.returns
returns c = record {
  flag_starts = simp (of_trees);
  flag_statements = simp (starts_is, of_trees);
  no_procedure = refl;
  nested_starts = simp (starts_is, of_trees);
}
