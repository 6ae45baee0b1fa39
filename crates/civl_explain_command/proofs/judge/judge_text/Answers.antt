use Rattle.std.proofs.Common.{sym, subst}
use Rattle.civl_explain_words.specs.declared.words.Command.{Command}
use Rattle.civl_explain_command.specs.Tasks.{AsksProvers}
use Rattle.civl_explain_command.proofs.judge.judge_text.Goals as goal

pub returns-in-Check-clause-unasked : goal.returns-in-Check-clause-unasked
returns-in-Check-clause-unasked g c = λ no. absurd (no (subst AsksProvers (sym c.in-Check.is) tt))

pub returns-in-Conditions-clause-unasked : goal.returns-in-Conditions-clause-unasked
returns-in-Conditions-clause-unasked g c = λ no. absurd (no (subst AsksProvers (sym c.in-Conditions.is) tt))

pub returns-in-Prove-clause-unasked : goal.returns-in-Prove-clause-unasked
returns-in-Prove-clause-unasked g c = λ no. absurd (no (subst AsksProvers (sym c.in-Prove.is) tt))
