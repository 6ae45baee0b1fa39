use Rattle.civl_states.proofs.formula_parts.Carrying.{carried_some}
use Rattle.civl_states.proofs.formula_parts.carried.with_item.Goals as goal

pub returns-in_ok-more-in-Some-clause-carried : goal.returns-in_ok-more-in-Some-clause-carried
returns-in_ok-more-in-Some-clause-carried c = λ f g a m. c.in_ok-more-in-Some.ensures.carried f g (carried_some c.in-Some.is a) m
