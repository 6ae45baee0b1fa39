use Rattle.std.proofs.Common.{refl}
use Rattle.civl_trial.proofs.procs.loads.Goals as goal

pub returns : goal.returns
returns c = c.pair.ensures _ _ (c.call-loads.ensures _ _ c.new.ensures (c.one-results.ensures _ c.named.ensures)) refl
