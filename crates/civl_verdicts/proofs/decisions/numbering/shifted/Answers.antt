use Rattle.std.proofs.Common.{arith}
use Rattle.civl_verdicts.proofs.decisions.Powers.{none_past}
use Rattle.civl_verdicts.proofs.decisions.numbering.shifted.Goals as goal

pub returns-then-bits-ge32 : goal.returns-then-bits-ge32
returns-then-bits-ge32 c = none_past c.args.number c.args.bits (omega (arith, c.ranges.number.fits)) (omega arith)
