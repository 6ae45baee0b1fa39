use Rattle.std.proofs.Common.{refl}
use Rattle.civl_verdicts.proofs.decisions.Rounds.{asked_more, asked_then}
use Rattle.civl_certify.proofs.Placed.{light_by}
use Rattle.civl_certify.proofs.certifying.answer.Goals as goal

pub show-requires-clause-light : goal.show-requires-clause-light
show-requires-clause-light g c = light_by c.args.src.now c.requires.light c.args.condition.now c.requires.listed

pub show-requires-in-Spent-clause-light : goal.show-requires-in-Spent-clause-light
show-requires-in-Spent-clause-light g c = light_by c.args.src.now c.requires.light c.args.condition.now c.requires.listed

pub returns-in-Never-clause-searched : goal.returns-in-Never-clause-searched
returns-in-Never-clause-searched g c = asked_more _ c.args.budget _ _ _ 0 refl c.in_ok-decide_initial.ensures.asked

pub returns-in_ok-shown-in-At-clause-searched : goal.returns-in_ok-shown-in-At-clause-searched
returns-in_ok-shown-in-At-clause-searched g c = asked_then _ c.args.budget _ _ _ 1 c.in_ok-decide_initial.ensures.asked (asked_more _ c.args.budget _ _ _ 0 refl c.in_ok-shown-in-At.ensures.asked)

pub returns-in_ok-shown-in-Spent-clause-searched : goal.returns-in_ok-shown-in-Spent-clause-searched
returns-in_ok-shown-in-Spent-clause-searched g c = asked_then _ c.args.budget _ _ _ 1 c.in_ok-decide_initial.ensures.asked (asked_more _ c.args.budget _ _ _ 0 refl c.in_ok-shown-in-Spent.ensures.asked)
