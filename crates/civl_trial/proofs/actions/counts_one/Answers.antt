use Rattle.std.proofs.Common.{refl}
use Rattle.civl_trial.proofs.actions.counts_one.Goals as goal

pub returns : goal.returns
returns c = c.one.ensures _ (c.update.ensures _ _ c.of_copy.ensures (c.two-more.ensures _ _ c.global-x.ensures refl))
