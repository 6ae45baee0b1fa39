use Rattle.civl_tree.specs.declared.expr.Expr.{the_lemmas as of_expr}
use Rattle.civl_firing.proofs.laws.scopes.places.Goals as goal

pub returns-clause-globals : goal.returns-clause-globals
returns-clause-globals c = simp (of_expr)

pub returns-clause-gate : goal.returns-clause-gate
returns-clause-gate c = simp (of_expr)

pub returns-clause-guard : goal.returns-clause-guard
returns-clause-guard c = simp (of_expr)

pub returns-clause-frame : goal.returns-clause-frame
returns-clause-frame c = simp (of_expr)
