use Rattle.std.proofs.Common.{arith}
use Rattle.civl_bits.proofs.Cells.{fill_more}
use Rattle.civl_bits.proofs.row.Row.fill.Goals as goal

pub loop-at-preserved : goal.loop-at-preserved
loop-at-preserved c = fill_more _ _ _ (omega arith) c.loop-at.invariant
