use Rattle.civl_tree.specs.declared.expr.Expr.{the_lemmas as of_expr}
use Rattle.civl_tree.proofs.Layers.{layers}
use Rattle.civl_firing.specs.Fired.{gate_holds, fires}
use Rattle.civl_clashes.specs.Told.{violation}
use Rattle.civl_clashes.proofs.laws.pooling.Goals as goal

pub returns-clause-doubles : goal.returns-clause-doubles
unfolding violation gate_holds fires
returns-clause-doubles c = simp (layers, of_expr)

pub returns-clause-makes : goal.returns-clause-makes
unfolding violation gate_holds fires
returns-clause-makes c = simp (layers, of_expr)

pub returns-clause-lent : goal.returns-clause-lent
unfolding violation gate_holds fires
returns-clause-lent c = (simp (layers, of_expr), simp (layers, of_expr))

pub returns-clause-starts : goal.returns-clause-starts
unfolding violation gate_holds fires
returns-clause-starts c = (simp (layers, of_expr), simp (layers, of_expr))
