-- The statuses: their exit codes, and those of verdicts.
use Rattle.std.specs.Prelude.{ℕ}
use Rattle.civl_verdicts.specs.declared.verdict.Verdict.{Verdict}
use Rattle.civl_verdicts.specs.declared.verdict.Verdict.TheVariants as verdict
use Rattle.civl_frontend.specs.declared.status.Status.{Status}
use Rattle.civl_frontend.specs.declared.status.Status.TheVariants.{Done, Rejected, Undecided, Refused, ReadFault, WriteFault, Usage, Memory}

abbrev pub code_of : Status → ℕ
code_of Done = 0
code_of Rejected = 1
code_of Undecided = 2
code_of Refused = 3
code_of ReadFault = 4
code_of WriteFault = 5
code_of Usage = 6
code_of Memory = 7

-- the status that a verdict has
abbrev pub verdict_status : Verdict → Status
verdict_status (verdict.Accepted count) = Done
verdict_status (verdict.Rejected counter) = Rejected
verdict_status (verdict.Undecided formula log) = Undecided
verdict_status verdict.NoInitial = Refused
