use Rattle.std.proofs.Common.{◌+◌}
use Rattle.civl_firing.specs.values.ActionWeights.{guard_weight, updates_weight}
use Rattle.civl_conditions.specs.Assumed.{refined_action}
use Rattle.civl_weighing.proofs.Capping.{sum_weighs}
use Rattle.civl_weights.proofs.sums.Acting.{maybe_there}
use Rattle.civl_weights.proofs.sums.cuts.refined_effect.Goals as goal

pub returns-in-Some : goal.returns-in-Some
returns-in-Some c = maybe_there c.args.program.now (refined_action c.args.program.now c.args.proc.now) c.in-Some.sums (λ a. guard_weight c.args.program.now a + updates_weight c.args.program.now a) c.in-Some.ensures (λ a h. sum_weighs c.plus.ensures h.guard h.updates)
