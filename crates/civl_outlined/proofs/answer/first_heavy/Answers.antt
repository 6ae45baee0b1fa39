use Rattle.std.proofs.Common.{arith, ap, sym, ◌∙◌}
use Rattle.std.specs.Prelude.{nat_lt}
use Rattle.civl_conditions.specs.Weights.{weight_limit}
use Rattle.civl_goals.specs.Weights.{weight}
use Rattle.civl_weighing.proofs.Capping.{capped_over}
use Rattle.civl_weights.proofs.First.{found_here, found_later}
use Rattle.civl_outlined.proofs.answer.first_heavy.Goals as goal

pub returns-then-is_heavy : goal.returns-then-is_heavy
returns-then-is_heavy c =
    found_here (λ g. nat_lt weight_limit (weight c.args.sums.now.said.program.now c.args.sums.now.said.outline.now g)) c.args.list.now c.loop-goal.goal-index _ (omega arith) (sym (c.is_heavy.ensures ∙ ap (nat_lt weight_limit) c.weigh.ensures.is ∙ capped_over _) ∙ c.if-is_heavy.true) c.loop-goal.invariant

pub loop-goal-preserved : goal.loop-goal-preserved
loop-goal-preserved c =
    found_later (λ g. nat_lt weight_limit (weight c.args.sums.now.said.program.now c.args.sums.now.said.outline.now g)) c.args.list.now c.loop-goal.goal-index _ (omega arith) (sym (c.is_heavy.ensures ∙ ap (nat_lt weight_limit) c.weigh.ensures.is ∙ capped_over _) ∙ c.if-is_heavy.false) c.loop-goal.invariant
