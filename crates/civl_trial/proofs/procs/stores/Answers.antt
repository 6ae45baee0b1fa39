use Rattle.std.proofs.Common.{refl}
use Rattle.civl_trial.proofs.procs.stores.Goals as goal

pub returns : goal.returns
returns c = c.pair.ensures _ _ (c.call-stores.ensures _ _ (c.one-args.ensures _ c.local.ensures) c.new.ensures) refl
