use Rattle.civl_expressions.proofs.OfExprs.{inner_expr_at}
use Rattle.civl_expressions.proofs.expressions.+expr.Goals as goal

pub inner-returns : goal.inner-returns
inner-returns t c = rw (inner_expr_at c.args.new c.args.most c.requires) c.expr.ensures
