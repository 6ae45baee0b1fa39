use Rattle.std.specs.Fmt.{digits}
use Rattle.civl_tree.specs.declared.expr.Expr.{the_lemmas as of_expr}
use Rattle.civl_tree.proofs.Layers.{layers}
use Rattle.civl_tree.proofs.Preorder.{inner_is}
use Rattle.civl_tree.proofs.Trees.{of_trees}
use Rattle.civl_firing.specs.Fired.{gate_holds, fires, fired}
use Rattle.civl_clashes.specs.Told.{violation}
use Rattle.civl_linear.proofs.Examples.{examples}
use Rattle.civl_goal_losses.specs.GoalLosses.{goal_loss}
use Rattle.civl_reasons.proofs.Parts.{parts_is}
use Rattle.civl_places.proofs.Walking.{starts_is}
use Rattle.civl_path_stories.specs.Paths.{named_parts}
use Rattle.civl_goal_stories.specs.GoalStories.{goal_story}
use Rattle.civl_goal_stories.proofs.laws.telling.Goals as goal

pub returns-clause-start : goal.returns-clause-start
unfolding goal_loss gate_holds fires fired goal_story named_parts digits
returns-clause-start c = simp (parts_is, layers, of_trees, of_expr)

pub returns-clause-thread : goal.returns-clause-thread
unfolding goal_loss gate_holds fires fired goal_story named_parts digits
returns-clause-thread c = simp (parts_is, layers, of_trees, of_expr)

pub returns-clause-gate : goal.returns-clause-gate
unfolding goal_loss gate_holds fires fired goal_story named_parts digits
returns-clause-gate c = simp (parts_is, layers, of_trees, of_expr)

pub returns-clause-fact : goal.returns-clause-fact
unfolding goal_loss gate_holds fires fired goal_story named_parts digits
returns-clause-fact c = simp (parts_is, starts_is, inner_is, layers, of_trees, of_expr, examples)

pub returns-clause-keep : goal.returns-clause-keep
unfolding goal_loss gate_holds fires fired goal_story named_parts digits
returns-clause-keep c = simp (parts_is, starts_is, inner_is, layers, of_trees, of_expr)

pub returns-clause-spawn : goal.returns-clause-spawn
unfolding goal_loss gate_holds fires fired goal_story named_parts digits
returns-clause-spawn c = simp (parts_is, starts_is, layers, of_trees, of_expr)

pub returns-clause-lead : goal.returns-clause-lead
unfolding goal_loss gate_holds fires fired goal_story named_parts digits
returns-clause-lead c = simp (parts_is, starts_is, layers, of_trees, of_expr, examples)

pub returns-clause-other : goal.returns-clause-other
unfolding goal_loss gate_holds fires fired goal_story named_parts digits
returns-clause-other c = simp (parts_is, layers, of_trees, of_expr, examples)

pub returns-clause-linear : goal.returns-clause-linear
unfolding goal_loss violation gate_holds fires fired goal_story digits
returns-clause-linear c = simp (layers, of_trees, of_expr)
