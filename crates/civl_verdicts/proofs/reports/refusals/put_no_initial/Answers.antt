use Rattle.std.proofs.Common.{append_assoc}
use Rattle.civl_verdicts.proofs.reports.refusals.put_no_initial.Goals as goal

pub returns : goal.returns
returns c = rw (c.in_ok-put-2.ensures, c.in_ok-put_number.ensures, c.in_ok-put.ensures, c.len.ensures, c.program.ensures.same) (simp append_assoc)
