use Rattle.std.proofs.Common.{◌≡◌, drop, nat_lt}
use Rattle.std.specs.List.{find}
use Rattle.civl_conditions.specs.Weights.{weight_limit}
use Rattle.civl_goals.specs.Weights.{weight}
use Rattle.civl_outlined.proofs.answer.first_heavy.Given as goal

abbrev pub invariant-loop-goal : goal.invariant-loop-goal
invariant-loop-goal l =
    find (λ g. nat_lt weight_limit (weight l.sums.said.program.now l.sums.said.outline.now g)) (drop l.goal-index l.list) ≡ find (λ g. nat_lt weight_limit (weight l.sums.said.program.now l.sums.said.outline.now g)) l.list
