use Rattle.civl_weighing.proofs.Capping.{sum_weighs, weighs_same}
use Rattle.civl_weights.proofs.Groups.{fire_is}
use Rattle.civl_weights.proofs.kinds.fire.Goals as goal

pub returns : goal.returns
returns c = weighs_same (fire_is c.args.program.now c.args.step.now.step c.args.x) (sum_weighs c.plus-2.ensures (sum_weighs c.plus.ensures c.requires.step.lower c.inputs_bits-inputs.ensures) c.fire_own.ensures)
