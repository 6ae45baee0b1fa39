use Rattle.civl_tree.proofs.Trees.{of_trees}
use Rattle.civl_reasons.proofs.Parts.{parts_is}
use Rattle.civl_reasons.proofs.laws.reason_examples.Goals as goal

pub returns : goal.returns
returns c = record { spelled = simp (of_trees); nested = simp (parts_is, of_trees); implied = simp (parts_is, of_trees); negated = simp (parts_is, of_trees); true_has_none = simp (parts_is, of_trees); misfit = simp (parts_is, of_trees) }
