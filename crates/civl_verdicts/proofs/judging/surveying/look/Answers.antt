use Rattle.std.specs.Prelude.{length}
use Rattle.std.proofs.Common.{◌+◌, ℕ, refl, ap}
use Rattle.civl_verdicts.proofs.decisions.Rounds.{asked_more, asked_then}
use Rattle.civl_verdicts.proofs.judging.surveying.look.Goals as goal

pub returns-in-Never-clause-searched : goal.returns-in-Never-clause-searched
returns-in-Never-clause-searched g c = (1, refl, asked_more _ c.args.budget _ _ _ 0 refl c.in_ok-decide_initial.ensures.asked)

pub returns-in_ok-findings-in-At-clause-searched : goal.returns-in_ok-findings-in-At-clause-searched
returns-in_ok-findings-in-At-clause-searched g c =
    let n = length c.args.list.now in
    (n + 1, ap (λ (k : ℕ). k + 1) (ap length c.requires.listed), asked_then _ c.args.budget _ _ _ n c.in_ok-decide_initial.ensures.asked c.in_ok-findings-in-At.ensures.asked)

pub returns-in_ok-findings-in-Spent-clause-searched : goal.returns-in_ok-findings-in-Spent-clause-searched
returns-in_ok-findings-in-Spent-clause-searched g c =
    let n = length c.args.list.now in
    (n + 1, ap (λ (k : ℕ). k + 1) (ap length c.requires.listed), asked_then _ c.args.budget _ _ _ n c.in_ok-decide_initial.ensures.asked c.in_ok-findings-in-Spent.ensures.asked)
