use Rattle.std.proofs.Common.{refl}
use Rattle.civl_trial.proofs.actions.raises_flag.Goals as goal

pub returns : goal.returns
returns c = c.pair.ensures _ _ (c.update-raised.ensures _ _ c.of_copy.ensures refl) (c.update-told.ensures _ _ c.named.ensures (c.not-clear.ensures _ c.global.ensures))
