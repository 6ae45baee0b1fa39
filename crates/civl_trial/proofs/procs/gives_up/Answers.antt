use Rattle.std.proofs.Common.{refl}
use Rattle.civl_trial.proofs.procs.gives_up.Goals as goal

pub returns : goal.returns
returns c = c.followed.ensures _ _ (c.pair.ensures _ _ (c.call-resets.ensures _ _ c.new.ensures c.new-2.ensures) refl) (c.intro-freed.ensures _ _ c.of_copy.ensures refl)
