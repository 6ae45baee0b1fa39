use Rattle.std.proofs.Common.{sym, subst}
use Rattle.civl_command.specs.Tasks.{command_for, AsksProvers}
use Rattle.civl_command.specs.declared.task.Task.{Task}
use Rattle.civl_command.proofs.judge.judge_text.Goals as goal

pub returns-in-Check-clause-unasked : goal.returns-in-Check-clause-unasked
returns-in-Check-clause-unasked g c = λ no. absurd (no (subst (λ (t : Task). AsksProvers (command_for t)) (sym c.in-Check.is) tt))

pub returns-in-Prove-clause-unasked : goal.returns-in-Prove-clause-unasked
returns-in-Prove-clause-unasked g c = λ no. absurd (rw c.in-Prove.is at no tt)

pub returns-in-Make-clause-unasked : goal.returns-in-Make-clause-unasked
returns-in-Make-clause-unasked g c = λ no. absurd (rw c.in-Make.is at no tt)

pub returns-in-Conditions-clause-unasked : goal.returns-in-Conditions-clause-unasked
returns-in-Conditions-clause-unasked g c = λ no. absurd (no (subst (λ (t : Task). AsksProvers (command_for t)) (sym c.in-Conditions.is) tt))
