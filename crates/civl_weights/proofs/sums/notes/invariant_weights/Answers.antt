use Rattle.std.proofs.Common.{arith}
use Rattle.civl_conditions.specs.Weights.{note_weight, maybe_weight}
use Rattle.civl_conditions.specs.Assumed.{cut_invariant}
use Rattle.civl_weighing.proofs.Listing.{each_more_at}
use Rattle.civl_weights.proofs.sums.notes.invariant_weights.Goals as goal

pub loop-cut-preserved : goal.loop-cut-preserved
loop-cut-preserved c = each_more_at (λ cut. maybe_weight (note_weight c.args.program.now c.args.proc.now) (cut_invariant c.args.proc.now cut)) c.args.cuts.now c.loop-cut.cut-index _ (omega arith) c.in_ok-push.ensures.ok c.loop-cut.invariant c.invariant_weight.ensures
