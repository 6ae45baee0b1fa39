use Rattle.std.proofs.Common.{arith}
use Rattle.civl_moves.proofs.Calling.{results_step, results_end}
use Rattle.civl_moves.proofs.calls.take_outs.Goals as goal

pub loop-at-preserved : goal.loop-at-preserved
loop-at-preserved c = results_step _ c.loop-at.locals c.take_out.new.locals c.args.results.now c.args.outs.now c.loop-at.at c.index-results-at.result _ (omega arith) c.index-results-at.is c.take_out.ensures c.loop-at.invariant

pub returns : goal.returns
returns c = results_end _ c.loop-at.locals c.args.results.now c.args.outs.now c.loop-at.at _ (omega arith) c.loop-at.invariant
