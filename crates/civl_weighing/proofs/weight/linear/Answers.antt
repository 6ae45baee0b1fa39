use Rattle.civl_weighing.proofs.Capping.{weighing}
use Rattle.civl_weighing.proofs.weight.linear.Goals as goal

pub returns : goal.returns
returns c = record { is = λ n h. search weighing depth 12 }
