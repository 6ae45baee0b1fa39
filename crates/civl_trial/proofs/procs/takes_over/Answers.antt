use Rattle.std.proofs.Common.{refl}
use Rattle.civl_trial.proofs.procs.takes_over.Goals as goal

pub returns : goal.returns
returns c = c.pair.ensures _ _ refl (c.intro-intro.ensures _ _ c.of_copy.ensures c.local.ensures)
