use Rattle.std.proofs.Common.{arith}
use Rattle.civl_weights.proofs.sums.Finding.{cuts_more}
use Rattle.civl_weights.proofs.sums.cuts.path_sums.Goals as goal

pub loop-number-preserved : goal.loop-number-preserved
loop-number-preserved c = cuts_more c.args.program.now c.args.step.now.step c.args.proc.now _ c.loop-number.number _ _ _ _ (omega arith) c.in_ok-push.ensures.ok c.loop-number.invariant c.cut_sums.ensures
