use Rattle.std.proofs.Common.{refl}
use Rattle.civl_trial.proofs.actions.atom_write.Goals as goal

pub returns : goal.returns
returns c = c.action.ensures _ _ _ _ _ _ (c.headed-heading.ensures _ _ _ c.of_copy-name.ensures c.thread_and_value.ensures c.new.ensures) c.is_holder.ensures refl c.writes_counter-updates.ensures
