use Rattle.civl_actions.proofs.Sizes.{expr_size}
use Rattle.civl_actions.proofs.expressions.+term.Given as goal

abbrev pub decreases-term : goal.decreases-term
decreases-term l = expr_size l.expr.now
