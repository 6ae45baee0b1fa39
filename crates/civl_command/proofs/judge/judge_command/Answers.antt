use Rattle.civl_command.specs.declared.task.Task.TheVariants.{Check, Conditions, Fmt, RunLow, RunTop, Prove, Make, Replay}
use Rattle.civl_command.proofs.judge.judge_command.Goals as goal

pub returns-in-Check-clause-unread : goal.returns-in-Check-clause-unread
returns-in-Check-clause-unread g c = λ no. absurd (no (Check c.in-Check.budget) c.in-Check.is)

pub returns-in-Conditions-clause-unread : goal.returns-in-Conditions-clause-unread
returns-in-Conditions-clause-unread g c = λ no. absurd (no (Conditions c.in-Conditions.budget) c.in-Conditions.is)

pub returns-in-Fmt-clause-unread : goal.returns-in-Fmt-clause-unread
returns-in-Fmt-clause-unread g c = λ no. absurd (no Fmt c.in-Fmt.is)

pub returns-in-RunLow-clause-unread : goal.returns-in-RunLow-clause-unread
returns-in-RunLow-clause-unread g c = λ no. absurd (no RunLow c.in-RunLow.is)

pub returns-in-RunTop-clause-unread : goal.returns-in-RunTop-clause-unread
returns-in-RunTop-clause-unread g c = λ no. absurd (no RunTop c.in-RunTop.is)

pub returns-in-Prove-clause-unread : goal.returns-in-Prove-clause-unread
returns-in-Prove-clause-unread g c = λ no. absurd (no (Prove c.in-Prove.budget) c.in-Prove.is)

pub returns-in-ProofMake-clause-unread : goal.returns-in-ProofMake-clause-unread
returns-in-ProofMake-clause-unread g c = λ no. absurd (no (Make c.in-ProofMake.at c.in-ProofMake.budget) c.in-ProofMake.is)

pub returns-in-ProofReplay-clause-unread : goal.returns-in-ProofReplay-clause-unread
returns-in-ProofReplay-clause-unread g c = λ no. absurd (no Replay c.in-ProofReplay.is)
