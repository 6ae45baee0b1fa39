use Rattle.civl_verdicts.specs.Formulas.{violation_formula}
use Rattle.civl_verdicts.proofs.judging.Making.{made_term, few_of_violation}
use Rattle.civl_verdicts.proofs.judging.verifying.decide_violation.Goals as goal

pub decide-requires-clause-few : goal.decide-requires-clause-few
decide-requires-clause-few g c = few_of_violation c.args.src.now c.args.condition.now _ _ c.in_ok-terms.ensures c.as_slice.ensures c.requires.light

pub returns-clause-decided : goal.returns-clause-decided
returns-clause-decided g c =
    c.in_ok-decision.ensures.decided (violation_formula c.args.src.now c.args.condition.now)
    (made_term (violation_formula c.args.src.now c.args.condition.now) _ _ c.in_ok-terms.ensures c.as_slice.ensures)
