use Rattle.std.proofs.Common.{refl}
use Rattle.civl_tree.specs.declared.expr.Expr.{the_lemmas as of_expr}
use Rattle.civl_tree.specs.declared.stmt.Stmt.{the_lemmas as of_stmt}
use Rattle.civl_firing.specs.Fired.{gate_holds, fires, fired}
use Rattle.civl_script.proofs.replays.laws.flag.Goals as goal

pub returns-clause-before_the_return : goal.returns-clause-before_the_return
unfolding gate_holds fires fired
returns-clause-before_the_return c = simp (of_expr, of_stmt)

pub returns-clause-after_the_end : goal.returns-clause-after_the_end
unfolding gate_holds fires fired
returns-clause-after_the_end c = simp (of_expr, of_stmt)

pub returns-clause-no_moves : goal.returns-clause-no_moves
returns-clause-no_moves c = refl

pub returns-clause-at_the_top : goal.returns-clause-at_the_top
unfolding gate_holds fires fired
returns-clause-at_the_top c = simp (of_expr)

pub returns-clause-gate_stops : goal.returns-clause-gate_stops
unfolding gate_holds fires fired
returns-clause-gate_stops c = simp (of_expr, of_stmt)

pub returns-clause-other_thread : goal.returns-clause-other_thread
unfolding gate_holds fires fired
returns-clause-other_thread c = simp (of_expr, of_stmt)
