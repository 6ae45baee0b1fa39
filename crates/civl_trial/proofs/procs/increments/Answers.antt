use Rattle.std.proofs.Common.{refl}
use Rattle.civl_trial.proofs.procs.increments.Goals as goal

pub returns : goal.returns
returns c = c.followed.ensures _ _ (c.followed-closed.ensures _ _ (c.followed-written.ensures _ _ (c.pair-opened.ensures _ _ c.call_for_thread-acquires.ensures c.reads.ensures) c.writes.ensures) c.call_for_thread.ensures) refl
