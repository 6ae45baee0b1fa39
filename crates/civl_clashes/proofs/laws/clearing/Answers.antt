use Rattle.civl_tree.specs.declared.expr.Expr.{the_lemmas as of_expr}
use Rattle.civl_tree.proofs.Layers.{layers}
use Rattle.civl_firing.specs.Fired.{gate_holds, fires}
use Rattle.civl_layers.specs.Cuts.{cuts_among}
use Rattle.civl_linear.proofs.Examples.{traced_is}
use Rattle.civl_clashes.specs.Told.{violation}
use Rattle.civl_clashes.proofs.laws.clearing.Goals as goal

pub returns-clause-invariant : goal.returns-clause-invariant
unfolding violation gate_holds fires
returns-clause-invariant c = simp (layers, of_expr)

pub returns-clause-yields : goal.returns-clause-yields
unfolding violation gate_holds fires cuts_among
returns-clause-yields c = (simp (traced_is, layers, of_expr), simp (traced_is, layers, of_expr))
