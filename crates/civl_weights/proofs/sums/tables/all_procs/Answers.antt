use Rattle.std.proofs.Common.{arith}
use Rattle.civl_meaning.proofs.Zipping.{zip_more}
use Rattle.civl_weights.specs.sums.Tables.{OfProc}
use Rattle.civl_weights.proofs.sums.tables.all_procs.Goals as goal

pub loop-number-preserved : goal.loop-number-preserved
loop-number-preserved c = (zip_more (OfProc c.args.src.now) _ c.loop-number.number c.index-procs-number.result _ _ _ (omega arith) c.index-procs-number.is c.loop-number.invariant.0 c.in_ok-found.ensures c.in_ok-push.ensures.ok, c.in_ok-step-2.ensures.sums)
