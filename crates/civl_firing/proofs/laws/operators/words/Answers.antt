use Rattle.civl_tree.specs.declared.expr.Expr.{the_lemmas as of_expr}
use Rattle.civl_firing.proofs.laws.operators.words.Goals as goal

pub returns-clause-arithmetic : goal.returns-clause-arithmetic
returns-clause-arithmetic c = simp (of_expr)

pub returns-clause-bits : goal.returns-clause-bits
returns-clause-bits c = simp (of_expr)

pub returns-clause-shifts : goal.returns-clause-shifts
returns-clause-shifts c = simp (of_expr)

pub returns-clause-division : goal.returns-clause-division
returns-clause-division c = simp (of_expr)

pub returns-clause-orders : goal.returns-clause-orders
returns-clause-orders c = simp (of_expr)

pub returns-clause-parts : goal.returns-clause-parts
returns-clause-parts c = simp (of_expr)

pub returns-clause-literals : goal.returns-clause-literals
returns-clause-literals c = simp (of_expr)
