use Rattle.std.proofs.Common.{append_assoc}
use Rattle.civl_trial.proofs.program.push_plain.Goals as goal

pub returns : goal.returns
returns c = rw (c.in_ok-pushed-4.ensures _ c.store.ensures, c.in_ok-pushed-3.ensures _ c.load.ensures, c.in_ok-pushed-2.ensures _ c.reset.ensures, c.in_ok-pushed.ensures _ c.cas.ensures) (simp (append_assoc))
