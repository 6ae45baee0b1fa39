use Rattle.civl_verdicts.specs.Formulas.{initial_formula}
use Rattle.civl_verdicts.proofs.judging.Making.{made_term, few_of_initial}
use Rattle.civl_verdicts.proofs.judging.verifying.decide_initial.Goals as goal

pub decide-requires-clause-few : goal.decide-requires-clause-few
decide-requires-clause-few g c = few_of_initial c.args.src.now _ _ c.in_ok-terms.ensures c.as_slice.ensures c.requires.light

pub returns-clause-decided : goal.returns-clause-decided
returns-clause-decided g c = c.in_ok-decision.ensures.decided (initial_formula c.args.src.now) (made_term (initial_formula c.args.src.now) _ _ c.in_ok-terms.ensures c.as_slice.ensures)
