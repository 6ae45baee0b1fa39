use Rattle.std.proofs.Common.{append_assoc}
use Rattle.civl_trial.proofs.program.push_procs.Goals as goal

pub returns : goal.returns
returns c = rw (c.in_ok-pushed-5.ensures _ c.incr.ensures, c.in_ok-pushed-4.ensures _ c.write.ensures, c.in_ok-pushed-3.ensures _ c.read.ensures, c.in_ok-pushed-2.ensures _ c.release.ensures, c.in_ok-pushed.ensures _ c.acquire.ensures) (simp (append_assoc))
