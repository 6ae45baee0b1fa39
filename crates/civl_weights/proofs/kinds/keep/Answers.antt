use Rattle.civl_weighing.proofs.Capping.{sum_weighs, weighs_same}
use Rattle.civl_weights.proofs.Groups.{keep_is}
use Rattle.civl_weights.proofs.kinds.keep.Goals as goal

pub returns : goal.returns
returns c = weighs_same (keep_is c.args.program.now c.args.step.now.step c.args.x) (sum_weighs c.plus-2.ensures (sum_weighs c.plus.ensures c.requires.step.lower c.instance_bits-instance.ensures) c.keep_own.ensures)
