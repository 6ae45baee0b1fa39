use Rattle.civl_weighing.proofs.Capping.{weighs_same}
use Rattle.civl_outlined.proofs.Totals.{kept_is}
use Rattle.civl_outlined.proofs.weights.weigh.Goals as goal

pub returns-in-Keep : goal.returns-in-Keep
returns-in-Keep c =
    rw c.in-Keep.is (weighs_same (kept_is c.args.sums.now.said.program.now c.args.sums.now.said.outline.now c.in-Keep.number c.in-Keep.statement) c.safe-in-Keep.ensures)
