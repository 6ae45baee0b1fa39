use Rattle.civl_tree.specs.declared.expr.Expr.{the_lemmas as of_expr}
use Rattle.civl_firing.specs.Fired.{gate_holds, fires, fired}
use Rattle.civl_meaning.proofs.Placing.{placing}
use Rattle.civl_tree.specs.declared.stmt.Stmt.{the_lemmas as of_stmt}
use Rattle.civl_meaning.proofs.laws.steps.actions_and_spawns.Goals as goal

pub returns-clause-action : goal.returns-clause-action
unfolding gate_holds fires fired
returns-clause-action c = simp (of_expr, placing)

pub returns-clause-spawn : goal.returns-clause-spawn
returns-clause-spawn c = simp (of_stmt)
