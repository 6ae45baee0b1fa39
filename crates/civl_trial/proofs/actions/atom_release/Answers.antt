use Rattle.std.proofs.Common.{refl}
use Rattle.civl_trial.proofs.actions.atom_release.Goals as goal

pub returns : goal.returns
returns c = c.action.ensures _ _ _ _ _ _ (c.headed-heading.ensures _ _ _ c.of_copy-name.ensures c.lent_thread.ensures c.new.ensures) c.is_holder.ensures refl c.frees_lock-updates.ensures
