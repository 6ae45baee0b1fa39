use Rattle.std.proofs.Common.{refl}
use Rattle.civl_trial.proofs.program.main_of.Goals as goal

pub returns : goal.returns
returns c = c.proc.ensures _ _ _ _ _ _ (c.headed-heading.ensures _ _ _ c.named-name.ensures c.lent_thread.ensures c.new.ensures) refl c.new-2.ensures c.increments-body.ensures
