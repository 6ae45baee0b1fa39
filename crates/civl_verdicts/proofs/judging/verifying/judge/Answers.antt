use Rattle.std.proofs.Common.{refl, ◌+◌}
use Rattle.civl_verdicts.proofs.decisions.Rounds.{asked_more, asked_then}
use Rattle.civl_verdicts.proofs.judging.verifying.judge.Goals as goal

pub returns-in-Never-clause-searched : goal.returns-in-Never-clause-searched
returns-in-Never-clause-searched g c = (1, refl, asked_more _ c.args.budget _ _ _ 0 refl c.in_ok-decide_initial.ensures.asked)

pub returns-in-Spent-clause-searched : goal.returns-in-Spent-clause-searched
returns-in-Spent-clause-searched g c = (1, refl, asked_more _ c.args.budget _ _ _ 0 refl c.in_ok-decide_initial.ensures.asked)

pub returns-in_ok-verdict-in-At-clause-searched : goal.returns-in_ok-verdict-in-At-clause-searched
returns-in_ok-verdict-in-At-clause-searched g c =
    let s = c.in_ok-verdict-in-At.ensures.searched in
    (s.0 + 1, s.1, asked_then _ c.args.budget _ _ _ s.0 c.in_ok-decide_initial.ensures.asked s.2)
