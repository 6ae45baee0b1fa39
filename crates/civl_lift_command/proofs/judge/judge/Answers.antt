use Rattle.std.proofs.Common.{subst, map, string_bytes}
use Rattle.civl_lift_command.specs.Words.{IsAsked}
use Rattle.civl_lift_command.proofs.Judging.{usage_judged}
use Rattle.civl_lift_command.proofs.judge.judge.Goals as goal

pub returns-in-Some-clause-judges : goal.returns-in-Some-clause-judges
returns-in-Some-clause-judges g c = c.judge_input.ensures (map string_bytes c.args.words.now.items) (subst (IsAsked (map string_bytes c.args.words.now.items)) c.in-Some.is c.budget_of.ensures)

pub returns-in-Some-clause-unread : goal.returns-in-Some-clause-unread
returns-in-Some-clause-unread g c = λ no. absurd (no (c.in-Some.budget, subst (IsAsked (map string_bytes c.args.words.now.items)) c.in-Some.is c.budget_of.ensures))

pub returns-in-None-clause-judges : goal.returns-in-None-clause-judges
returns-in-None-clause-judges g c =
    usage_judged (map string_bytes c.args.words.now.items) _ _ _ (subst (IsAsked (map string_bytes c.args.words.now.items)) c.in-None.is c.budget_of.ensures) c.usage.ensures.status c.usage.ensures.report
