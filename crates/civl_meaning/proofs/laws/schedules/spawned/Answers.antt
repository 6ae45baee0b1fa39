use Rattle.civl_tree.specs.declared.expr.Expr.{the_lemmas as of_expr}
use Rattle.civl_tree.specs.declared.stmt.Stmt.{the_lemmas as of_stmt}
use Rattle.civl_firing.specs.Fired.{gate_holds, fires, fired}
use Rattle.std.proofs.Common.{refl}
use Rattle.civl_meaning.proofs.laws.schedules.spawned.Goals as goal

pub returns-clause-low : goal.returns-clause-low
unfolding gate_holds fires fired
returns-clause-low c = simp (of_expr, of_stmt)

pub returns-clause-top : goal.returns-clause-top
unfolding gate_holds fires fired
returns-clause-top c = simp (of_expr, of_stmt)

pub returns-clause-nothread : goal.returns-clause-nothread
returns-clause-nothread c = refl

pub returns-clause-fails_not : goal.returns-clause-fails_not
returns-clause-fails_not c = simp (of_stmt)
