use Rattle.civl_tree.specs.declared.expr.Expr.{the_lemmas as of_expr}
use Rattle.civl_tree.proofs.Layers.{layers}
use Rattle.civl_firing.specs.Fired.{gate_holds, fires}
use Rattle.civl_clashes.specs.Told.{violation}
use Rattle.civl_clashes.proofs.laws.locking.Goals as goal

pub returns-clause-lock : goal.returns-clause-lock
unfolding violation gate_holds fires
returns-clause-lock c = simp (layers, of_expr)

pub returns-clause-held : goal.returns-clause-held
unfolding violation gate_holds fires
returns-clause-held c = simp (layers, of_expr)

pub returns-clause-free : goal.returns-clause-free
unfolding violation gate_holds fires
returns-clause-free c = (simp (layers, of_expr), simp (layers, of_expr))

pub returns-clause-read : goal.returns-clause-read
unfolding violation gate_holds fires
returns-clause-read c = simp (layers, of_expr)

pub returns-clause-write : goal.returns-clause-write
unfolding violation gate_holds fires
returns-clause-write c = (simp (layers, of_expr), simp (layers, of_expr))

pub returns-clause-gates : goal.returns-clause-gates
unfolding violation gate_holds fires
returns-clause-gates c = (simp (layers, of_expr), simp (layers, of_expr), simp (layers, of_expr), simp (layers, of_expr))

pub returns-clause-pick : goal.returns-clause-pick
unfolding violation gate_holds fires
returns-clause-pick c = (simp (layers, of_expr), simp (layers, of_expr), simp (layers, of_expr))
