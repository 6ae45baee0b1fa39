use Rattle.civl_trial.proofs.actions.is_holder.Goals as goal

pub returns : goal.returns
returns c = c.two.ensures _ _ c.is_thread.ensures (c.two-held.ensures _ _ c.global-lock.ensures c.local.ensures)
