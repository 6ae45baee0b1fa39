use Rattle.civl_tree.specs.declared.expr.Expr.{the_lemmas as of_expr}
use Rattle.civl_firing.proofs.laws.operators.bools_and_rows.Goals as goal

pub returns-clause-connectives : goal.returns-clause-connectives
returns-clause-connectives c = simp (of_expr)

pub returns-clause-equality : goal.returns-clause-equality
returns-clause-equality c = simp (of_expr)

pub returns-clause-rows : goal.returns-clause-rows
returns-clause-rows c = simp (of_expr)
