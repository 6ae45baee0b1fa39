use Rattle.civl_trial.proofs.procs.reads.Goals as goal

pub returns : goal.returns
returns c = c.call.ensures _ _ (c.one-args.ensures _ c.local.ensures) (c.one-results.ensures _ c.named.ensures)
