use Rattle.std.proofs.Common.{ap, ◌∙◌}
use Rattle.std.specs.Prelude.{nat_lt}
use Rattle.civl_conditions.specs.Weights.{weight_limit}
use Rattle.civl_weighing.proofs.Capping.{capped_over}
use Rattle.civl_weights.proofs.answer.is_initial_heavy.Goals as goal

pub returns : goal.returns
returns c = record { is = λ program h. c.is_heavy.ensures ∙ ap (nat_lt weight_limit) (c.weigh_initial.ensures.is program h).is ∙ capped_over _ }
