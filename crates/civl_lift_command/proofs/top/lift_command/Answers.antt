use Rattle.civl_lift_command.proofs.Promising.{usage_unasked}
use Rattle.civl_lift_command.proofs.Promised.{promises_by}
use Rattle.civl_lift_command.proofs.top.lift_command.Goals as goal

pub returns-clause-promises : goal.returns-clause-promises
returns-clause-promises g c = promises_by _ c.accepted_programs_preserve.ensures c.respond.ensures.explains

pub returns-clause-unread_usage : goal.returns-clause-unread_usage
returns-clause-unread_usage g c = λ is. c.respond.ensures.unread (usage_unasked _ _ _ _ _ (rw is at c.respond.ensures.explains))
