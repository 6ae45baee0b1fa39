use Rattle.civl_weighing.proofs.Capping.{sum_weighs}
use Rattle.civl_weights.proofs.sums.actions.ActionSums.whole.Goals as goal

pub returns : goal.returns
returns c = record { is = λ program a h. sum_weighs c.plus-2.ensures (sum_weighs c.plus.ensures h.gate h.guard) h.updates }
