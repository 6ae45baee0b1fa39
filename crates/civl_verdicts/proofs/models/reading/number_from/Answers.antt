use Rattle.std.proofs.Common.{arith}
use Rattle.civl_cnf.specs.ClauseSet.{assignment}
use Rattle.civl_verdicts.proofs.models.CellsRead.{room}
use Rattle.civl_verdicts.proofs.models.reading.number_from.Goals as goal

pub overflow_add-number : goal.overflow_add-number
overflow_add-number c = omega (arith, c.loop-at.invariant, c.power-number.ensures, room (assignment c.args.bits.now) c.args.first c.loop-at.at (omega (arith, c.requires.narrow)))
