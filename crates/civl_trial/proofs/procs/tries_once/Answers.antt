use Rattle.civl_trial.proofs.procs.tries_once.Goals as goal

pub returns : goal.returns
returns c = c.pair.ensures _ _ c.calls_cas.ensures (c.when-taken.ensures _ _ c.local.ensures c.takes_over.ensures)
