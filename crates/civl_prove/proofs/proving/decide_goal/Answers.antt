use Rattle.civl_verdicts.proofs.judging.Making.{made_term}
use Rattle.civl_prove.specs.Proved.{goal_formula}
use Rattle.civl_prove.proofs.Limits.{few_of_goal}
use Rattle.civl_prove.proofs.proving.decide_goal.Goals as goal

pub decide-requires-clause-few : goal.decide-requires-clause-few
decide-requires-clause-few g c = few_of_goal c.args.src.now c.args.outline.now c.args.goal.now _ _ c.in_ok-terms.ensures c.as_slice.ensures c.requires.light

pub returns-clause-decided : goal.returns-clause-decided
returns-clause-decided g c =
    c.in_ok-decision.ensures.decided (goal_formula c.args.src.now c.args.outline.now c.args.goal.now)
    (made_term (goal_formula c.args.src.now c.args.outline.now c.args.goal.now) _ _ c.in_ok-terms.ensures c.as_slice.ensures)
