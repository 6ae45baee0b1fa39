use Rattle.std.proofs.Common.{arith}
use Rattle.civl_verdicts.proofs.decisions.Powers.{times_past}
use Rattle.civl_verdicts.proofs.decisions.numbering.times.Goals as goal

pub returns-then-bits-ge32-clause-none : goal.returns-then-bits-ge32-clause-none
returns-then-bits-ge32-clause-none c = times_past c.args.most c.args.count c.args.bits (omega (arith, c.ranges.most.fits)) c.requires (omega arith)
