use Rattle.std.proofs.Common.{append_assoc}
use Rattle.civl_trial.proofs.program.push_atoms.Goals as goal

pub returns : goal.returns
returns c = rw (c.in_ok-pushed-5.ensures _ c.atom_incr.ensures, c.in_ok-pushed-4.ensures _ c.atom_write.ensures, c.in_ok-pushed-3.ensures _ c.atom_read.ensures, c.in_ok-pushed-2.ensures _ c.atom_release.ensures, c.in_ok-pushed.ensures _ c.atom_acquire.ensures) (simp (append_assoc))
