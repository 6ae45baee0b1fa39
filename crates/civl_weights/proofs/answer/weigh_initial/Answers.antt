use Rattle.civl_conditions.specs.Weights.{initial_weight}
use Rattle.civl_weighing.proofs.Capping.{sum_weighs}
use Rattle.civl_weights.proofs.answer.weigh_initial.Goals as goal

pub returns : goal.returns
unfolding initial_weight
returns c = record { is = λ program h. sum_weighs c.plus.ensures h.bits h.initial }
