use Rattle.std.proofs.Common.{arith}
use Rattle.civl_verdicts.proofs.decisions.Powers.{low_past}
use Rattle.civl_verdicts.proofs.decisions.numbering.low_bits.Goals as goal

pub returns-then-bits-ge32 : goal.returns-then-bits-ge32
returns-then-bits-ge32 c = low_past c.args.number c.args.bits (omega (arith, c.ranges.number.fits)) (omega arith)
