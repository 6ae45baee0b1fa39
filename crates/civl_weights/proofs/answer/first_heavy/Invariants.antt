use Rattle.std.proofs.Common.{◌≡◌, drop, nat_lt}
use Rattle.std.specs.List.{find}
use Rattle.civl_conditions.specs.Weights.{weight_limit, weight}
use Rattle.civl_weights.specs.sums.Sums.{OfStep}
use Rattle.civl_weights.proofs.answer.first_heavy.Given as goal

abbrev pub invariant-loop-condition : goal.invariant-loop-condition
invariant-loop-condition l = (find (λ c. nat_lt weight_limit (weight l.src c)) (drop l.condition-index l.list) ≡ find (λ c. nat_lt weight_limit (weight l.src c)) l.list) × OfStep l.src l.step
