use Rattle.std.proofs.Common.{◌∙◌, Some, sym, ap, map, string_bytes}
use Rattle.civl_words.specs.declared.words.Command.{Command}
use Rattle.civl_words.proofs.Fits.{numbers_fit}
use Rattle.civl_command.proofs.Asking.{none_untaken}
use Rattle.civl_command.proofs.Judging.{unread_wanted, usage_judged}
use Rattle.civl_command.proofs.judge.judge.Goals as goal

pub judge_command-requires : goal.judge_command-requires
judge_command-requires g c = numbers_fit (map string_bytes c.args.words.now.items) c.in-Some.command (sym c.in-Ok.ensures ∙ c.in-Some.is)

pub returns-in-Some-clause-judges : goal.returns-in-Some-clause-judges
returns-in-Some-clause-judges g c = c.judge_command.ensures.judges (map string_bytes c.args.words.now.items) (sym c.in-Ok.ensures ∙ c.in-Some.is)

pub returns-in-Some-clause-unread : goal.returns-in-Some-clause-unread
returns-in-Some-clause-unread g c = λ no. c.judge_command.ensures.unread (λ task is. no (task, sym c.in-Ok.ensures ∙ c.in-Some.is ∙ ap (λ (command : Command). Some command) is))

pub returns-in-Some-clause-unasked : goal.returns-in-Some-clause-unasked
returns-in-Some-clause-unasked g c = λ no. c.judge_command.ensures.unasked (λ asks. no (c.in-Some.command, sym c.in-Ok.ensures ∙ c.in-Some.is, asks))

pub returns-in-None-clause-judges : goal.returns-in-None-clause-judges
returns-in-None-clause-judges g c =
    usage_judged (map string_bytes c.args.words.now.items) _ _ _ (none_untaken _ (sym c.in-Ok.ensures ∙ c.in-None.is)) c.usage.ensures.status c.usage.ensures.report

pub returns-in-Err-clause-judges : goal.returns-in-Err-clause-judges
returns-in-Err-clause-judges g c = unread_wanted (map string_bytes c.args.words.now.items) _ _ _ c.wanting.ensures
