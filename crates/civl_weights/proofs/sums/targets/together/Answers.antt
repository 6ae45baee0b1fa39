use Rattle.civl_weighing.proofs.Capping.{sum_weighs, linear_weighs}
use Rattle.civl_weights.proofs.sums.targets.together.Goals as goal

pub returns-in-Yield : goal.returns-in-Yield
returns-in-Yield c = record { is = λ n h. let items = rw c.in-Yield.is at c.requires in rw c.in-Yield.is (linear_weighs c.linear.ensures (sum_weighs c.plus.ensures h items)) }
