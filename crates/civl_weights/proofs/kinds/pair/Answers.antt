use Rattle.civl_weighing.proofs.Capping.{sum_weighs, weighs_same}
use Rattle.civl_weights.proofs.Groups.{pair_is}
use Rattle.civl_weights.proofs.kinds.pair.Goals as goal

pub returns : goal.returns
returns c = weighs_same (pair_is c.args.program.now c.args.number c.args.step.now.step c.args.x c.args.y) (sum_weighs c.plus-2.ensures (sum_weighs c.plus-variables.ensures c.requires.step.lower (sum_weighs c.plus.ensures c.instance_bits-first.ensures c.instance_bits-second.ensures)) c.pair_own.ensures)
