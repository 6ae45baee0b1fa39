use Rattle.civl_tree.specs.declared.expr.Expr.{the_lemmas as of_expr}
use Rattle.civl_tree.proofs.Layers.{layers}
use Rattle.civl_goals.proofs.laws.notes_fit.Goals as goal

pub returns : goal.returns
returns c = (simp (layers, of_expr), simp (layers, of_expr))
