use Rattle.std.proofs.Common.{refl}
use Rattle.civl_trial.proofs.procs.tries.Goals as goal

pub returns : goal.returns
returns c = c.yield_loop.ensures _ _ _ (c.not-test.ensures _ c.local.ensures) (c.two-inv.ensures _ _ c.local-2.ensures refl) c.tries_once.ensures
