use Rattle.std.proofs.Common.{append_assoc}
use Rattle.civl_trial.proofs.program.push_actions.Goals as goal

pub returns : goal.returns
returns c = rw (c.in_ok-push_atoms.ensures, c.in_ok-push_plain.ensures) (simp (append_assoc))
