use Rattle.civl_tree.proofs.Trees.{of_trees}
use Rattle.civl_tree.proofs.Preorder.{inner_is}
use Rattle.civl_places.proofs.Walking.{starts_is}
use Rattle.civl_places.proofs.laws.formula_examples.Goals as goal

pub returns : goal.returns
returns c = record {
  declarations = simp (of_trees);
  actions = simp (of_trees);
  statements = simp (starts_is, inner_is, of_trees);
  none = simp (starts_is, inner_is, of_trees);
}
