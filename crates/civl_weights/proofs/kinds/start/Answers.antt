use Rattle.civl_conditions.specs.Weights.{global_weight}
use Rattle.civl_conditions.specs.Steps.{step_invariants}
use Rattle.civl_weighing.proofs.Capping.{sum_weighs, weighs_same}
use Rattle.civl_weighing.proofs.Listing.{listed_at}
use Rattle.civl_weights.proofs.Groups.{start_is}
use Rattle.civl_weights.proofs.kinds.start.Goals as goal

pub returns : goal.returns
returns c = weighs_same (start_is c.args.program.now c.args.step.now.step c.args.number) (sum_weighs c.plus-2.ensures c.requires.tables.bits (sum_weighs c.plus.ensures c.requires.tables.initial (listed_at (global_weight c.args.program.now) (step_invariants c.args.program.now c.args.step.now.step) c.args.number c.as_slice.ensures c.requires.step.invariants c.weight_at-invariant.ensures)))
