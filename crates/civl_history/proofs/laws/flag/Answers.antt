use Rattle.std.proofs.Common.{refl}
use Rattle.civl_tree.specs.declared.expr.Expr.{the_lemmas as of_expr}
use Rattle.civl_tree.specs.declared.stmt.Stmt.{the_lemmas as of_stmt}
use Rattle.civl_firing.specs.Fired.{gate_holds, fires, fired}
use Rattle.civl_history.proofs.laws.flag.Goals as goal

pub returns-clause-low : goal.returns-clause-low
unfolding gate_holds fires fired
returns-clause-low c = simp (of_expr, of_stmt)

pub returns-clause-top : goal.returns-clause-top
unfolding gate_holds fires fired
returns-clause-top c = simp (of_expr, of_stmt)

pub returns-clause-other : goal.returns-clause-other
returns-clause-other c = refl

pub returns-clause-none : goal.returns-clause-none
returns-clause-none c = refl

pub returns-clause-spawning : goal.returns-clause-spawning
unfolding gate_holds fires fired
returns-clause-spawning c = simp (of_expr, of_stmt)
