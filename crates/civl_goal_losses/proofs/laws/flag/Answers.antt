use Rattle.civl_tree.specs.declared.expr.Expr.{the_lemmas as of_expr}
use Rattle.civl_tree.proofs.Layers.{layers}
use Rattle.civl_firing.specs.Fired.{gate_holds, fires, fired}
use Rattle.civl_linear.proofs.Examples.{examples}
use Rattle.civl_goal_losses.specs.GoalLosses.{goal_loss}
use Rattle.civl_goal_losses.proofs.laws.flag.Goals as goal

pub returns-clause-gate : goal.returns-clause-gate
unfolding goal_loss gate_holds fires fired
returns-clause-gate c = simp (layers, of_expr)

pub returns-clause-leads : goal.returns-clause-leads
unfolding goal_loss gate_holds fires fired
returns-clause-leads c = (simp (layers, of_expr, examples), simp (layers, of_expr, examples))
