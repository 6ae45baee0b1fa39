use Rattle.civl_explain_command.proofs.Promising.{promises_by, usage_unasked}
use Rattle.civl_explain_command.proofs.top.explain_command.Goals as goal

pub returns-clause-promises : goal.returns-clause-promises
returns-clause-promises g c = promises_by _ c.respond.ensures.explains

pub returns-clause-unread_usage : goal.returns-clause-unread_usage
returns-clause-unread_usage g c = λ is. c.respond.ensures.unread (usage_unasked _ _ _ _ _ (rw is at c.respond.ensures.explains))
