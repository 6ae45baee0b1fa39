use Rattle.std.proofs.Common.{refl}
use Rattle.civl_trial.proofs.procs.writes.Goals as goal

pub returns : goal.returns
returns c = c.call.ensures _ _ (c.pair-args.ensures _ _ c.local.ensures (c.two-more.ensures _ _ c.local-v.ensures refl)) c.new.ensures
