use Rattle.std.proofs.Common.{refl}
use Rattle.civl_tree.specs.declared.expr.Expr.{the_lemmas as of_expr}
use Rattle.civl_firing.specs.Fired.{gate_holds, fires, fired}
use Rattle.civl_meaning.proofs.Placing.{placing}
use Rattle.civl_tree.specs.declared.stmt.Stmt.{the_lemmas as of_stmt}
use Rattle.civl_meaning.proofs.laws.steps.calls.Goals as goal

pub returns-clause-thread : goal.returns-clause-thread
returns-clause-thread c = refl

pub returns-clause-body : goal.returns-clause-body
unfolding gate_holds fires fired
returns-clause-body c = simp (of_expr, placing)

pub returns-clause-outputs : goal.returns-clause-outputs
returns-clause-outputs c = simp (of_stmt)

pub returns-clause-deep : goal.returns-clause-deep
returns-clause-deep c = simp (of_stmt)

pub returns-clause-first_frame : goal.returns-clause-first_frame
returns-clause-first_frame c = simp (of_stmt)
