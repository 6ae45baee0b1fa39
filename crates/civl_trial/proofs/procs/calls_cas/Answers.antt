use Rattle.civl_trial.proofs.procs.calls_cas.Goals as goal

pub returns : goal.returns
returns c = c.call.ensures _ _ c.new.ensures (c.one-results.ensures _ c.named.ensures)
