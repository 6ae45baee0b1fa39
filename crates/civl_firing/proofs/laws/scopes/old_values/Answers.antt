use Rattle.civl_tree.specs.declared.expr.Expr.{the_lemmas as of_expr}
use Rattle.civl_firing.proofs.laws.scopes.old_values.Goals as goal

pub returns : goal.returns
returns c = simp (of_expr)
