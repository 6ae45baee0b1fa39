use Rattle.civl_weighing.proofs.Capping.{sum_weighs, weighs_same}
use Rattle.civl_weights.proofs.Groups.{act_is}
use Rattle.civl_weights.proofs.kinds.act.Goals as goal

pub returns : goal.returns
returns c = weighs_same (act_is c.args.program.now c.args.step.now.step c.args.x c.args.target) (sum_weighs c.plus-2.ensures (sum_weighs c.plus-variables.ensures c.requires.step.near (sum_weighs c.plus.ensures c.instance_bits-instance.ensures c.target_sums-wanted.ensures.frame)) (c.act_own.ensures.is c.args.target c.target_sums-wanted.ensures))
