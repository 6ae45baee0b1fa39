use Rattle.std.specs.Fmt.{digits}
use Rattle.civl_tree.proofs.Layers.{layers}
use Rattle.civl_tree.proofs.Preorder.{inner_is}
use Rattle.civl_tree.proofs.Trees.{of_trees}
use Rattle.civl_reasons.proofs.Parts.{parts_is}
use Rattle.civl_layers.specs.Cuts.{cuts_among}
use Rattle.civl_action_stories.specs.Told.{violation_story}
use Rattle.civl_action_stories.proofs.laws.telling.Goals as goal

pub returns-clause-start : goal.returns-clause-start
unfolding violation_story digits
returns-clause-start c = simp (parts_is, layers, of_trees)

pub returns-clause-read : goal.returns-clause-read
unfolding violation_story digits
returns-clause-read c = simp (layers, of_trees)

pub returns-clause-free : goal.returns-clause-free
unfolding violation_story digits
returns-clause-free c = simp (parts_is, layers, of_trees)

pub returns-clause-lost : goal.returns-clause-lost
unfolding violation_story digits
returns-clause-lost c = simp (parts_is, layers, of_trees)

pub returns-clause-stay : goal.returns-clause-stay
unfolding violation_story digits cuts_among
returns-clause-stay c = simp (parts_is, inner_is, layers, of_trees)
