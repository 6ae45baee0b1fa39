use Rattle.civl_trial.proofs.procs.acquire.Goals as goal

pub returns : goal.returns
returns c = c.proc.ensures _ _ _ _ _ _ (c.headed-heading.ensures _ _ _ c.of_copy-name.ensures c.lent_thread.ensures c.new.ensures) c.refines.ensures (c.one-locals.ensures _ c.var.ensures) (c.one-body.ensures _ c.tries.ensures)
