use Rattle.civl_meaning.proofs.Schedules.{low_schedule_runs}
use Rattle.civl_tree.specs.declared.expr.Expr.{the_lemmas as of_expr}
use Rattle.civl_tree.specs.declared.stmt.Stmt.{the_lemmas as of_stmt}
use Rattle.civl_firing.specs.Fired.{gate_holds, fires, fired}
use Rattle.std.proofs.Common.{refl}
use Rattle.civl_meaning.proofs.laws.schedules.increments.Goals as goal

pub returns-clause-low : goal.returns-clause-low
returns-clause-low c = low_schedule_runs

pub returns-clause-low_fails : goal.returns-clause-low_fails
unfolding gate_holds fires fired
returns-clause-low_fails c = simp (of_expr, of_stmt)

pub returns-clause-top : goal.returns-clause-top
unfolding gate_holds fires fired
returns-clause-top c = simp (of_expr, of_stmt)

pub returns-clause-top_fails_not : goal.returns-clause-top_fails_not
returns-clause-top_fails_not c = simp (of_stmt)

pub returns-clause-nothread : goal.returns-clause-nothread
returns-clause-nothread c = refl
