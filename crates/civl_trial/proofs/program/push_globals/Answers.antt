use Rattle.std.proofs.Common.{append_assoc}
use Rattle.civl_trial.proofs.program.push_globals.Goals as goal

pub returns : goal.returns
returns c = rw (c.in_ok-pushed-3.ensures _ c.counter.ensures, c.in_ok-pushed-2.ensures _ c.lock.ensures, c.in_ok-pushed.ensures _ c.flag.ensures) (simp (append_assoc))
