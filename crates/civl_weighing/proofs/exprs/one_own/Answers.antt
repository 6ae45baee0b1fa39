use Rattle.civl_weighing.proofs.Capping.{weighing}
use Rattle.civl_weighing.proofs.exprs.one_own.Goals as goal

pub returns-in-Minus : goal.returns-in-Minus
returns-in-Minus c = record { is = λ n h. rw c.in-Minus.is (search weighing depth 8) }
