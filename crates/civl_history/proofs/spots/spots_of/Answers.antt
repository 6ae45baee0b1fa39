use Rattle.std.proofs.Common.{arith}
use Rattle.civl_history.specs.inner.Spots.{AreSpotsOf}
use Rattle.civl_meaning.proofs.Zipping.{zip_more}
use Rattle.civl_history.proofs.spots.spots_of.Goals as goal

pub loop-proc-preserved : goal.loop-proc-preserved
loop-proc-preserved c =
    zip_more AreSpotsOf c.as_slice-proc-items.result.now c.loop-proc.proc-index c.proc-item.result _ _ _ (omega arith) c.proc-item.is c.loop-proc.invariant c.in_ok-spots.ensures c.in_ok-push.ensures.items
