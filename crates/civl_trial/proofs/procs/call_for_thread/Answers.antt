use Rattle.civl_trial.proofs.procs.call_for_thread.Goals as goal

pub returns : goal.returns
returns c = c.call.ensures _ _ (c.one-args.ensures _ c.local.ensures) c.new.ensures
