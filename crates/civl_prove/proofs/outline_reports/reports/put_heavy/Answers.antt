use Rattle.std.proofs.Common.{append_assoc}
use Rattle.civl_prove.proofs.outline_reports.reports.put_heavy.Goals as goal

pub returns : goal.returns
returns c = rw (c.in_ok-put-2.ensures, c.in_ok-put_goal.ensures, c.in_ok-put.ensures) (simp append_assoc)
