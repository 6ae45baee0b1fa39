use Rattle.civl_weighing.proofs.Capping.{sum_weighs}
use Rattle.civl_weights.proofs.kinds.path_of.Goals as goal

pub returns : goal.returns
returns c = record { is = λ program step proc number cut h. sum_weighs c.plus-2.ensures h.variables (sum_weighs c.plus-own.ensures (sum_weighs c.plus.ensures h.base h.passed) (c.part_of.ensures.is program step proc number cut h)) }
