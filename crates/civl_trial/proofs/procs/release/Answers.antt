use Rattle.civl_trial.proofs.procs.release.Goals as goal

pub returns : goal.returns
returns c = c.proc.ensures _ _ _ _ _ _ (c.headed-heading.ensures _ _ _ c.of_copy-name.ensures c.lent_thread.ensures c.new.ensures) c.refines-refines.ensures c.new-2.ensures c.gives_up.ensures
