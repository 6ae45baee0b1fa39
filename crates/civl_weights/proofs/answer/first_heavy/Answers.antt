use Rattle.std.proofs.Common.{arith, ap, sym, ◌∙◌}
use Rattle.std.specs.Prelude.{nat_lt}
use Rattle.civl_conditions.specs.Weights.{weight_limit, weight}
use Rattle.civl_weighing.proofs.Capping.{capped_over}
use Rattle.civl_weights.proofs.First.{found_here, found_later}
use Rattle.civl_weights.proofs.answer.first_heavy.Goals as goal

pub returns-then-is_heavy : goal.returns-then-is_heavy
returns-then-is_heavy c = found_here (λ k. nat_lt weight_limit (weight c.args.src.now k)) c.args.list.now c.loop-condition.condition-index _ (omega arith) (sym (c.is_heavy.ensures ∙ ap (nat_lt weight_limit) c.in_ok-weight.ensures.is ∙ capped_over _) ∙ c.if-is_heavy.true) c.loop-condition.invariant.0

pub loop-condition-preserved : goal.loop-condition-preserved
loop-condition-preserved c = (found_later (λ k. nat_lt weight_limit (weight c.args.src.now k)) c.args.list.now c.loop-condition.condition-index _ (omega arith) (sym (c.is_heavy.ensures ∙ ap (nat_lt weight_limit) c.in_ok-weight.ensures.is ∙ capped_over _) ∙ c.if-is_heavy.false) c.loop-condition.invariant.0, c.in_ok-step-2.ensures.sums)
