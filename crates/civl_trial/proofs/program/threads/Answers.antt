use Rattle.civl_trial.proofs.program.threads.Goals as goal

pub returns : goal.returns
returns c = c.pair.ensures _ _ c.main_thread.ensures c.main_thread-2.ensures
