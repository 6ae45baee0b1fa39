use Rattle.civl_weighing.proofs.Capping.{weighing}
use Rattle.civl_weighing.proofs.exprs.set_own_of.Goals as goal

pub returns-in-Row : goal.returns-in-Row
returns-in-Row c = rw c.in-Row.is (search weighing depth 8)
