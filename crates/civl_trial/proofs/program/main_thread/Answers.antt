use Rattle.std.proofs.Common.{refl}
use Rattle.civl_trial.proofs.program.main_thread.Goals as goal

pub returns : goal.returns
returns c = c.thread.ensures _ _ c.named.ensures (c.one-args.ensures _ refl)
