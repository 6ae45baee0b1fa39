use Rattle.std.proofs.Common.{Some, None, refl}
use Rattle.std.proofs.Common.{◌+◌}
use Rattle.civl_firing.specs.values.ActionWeights.{gate_weight, guard_weight, offers_weight}
use Rattle.civl_weighing.proofs.Capping.{sum_weighs}
use Rattle.civl_weighing.proofs.Listing.{got_of}
use Rattle.civl_weights.proofs.Finding.{action_there, action_none}
use Rattle.civl_weights.proofs.kinds.fire_own.Goals as goal

pub returns-in-Some : goal.returns-in-Some
returns-in-Some c = action_there c.args.program.now c.args.actions.now c.args.x (λ a. gate_weight c.args.program.now a + guard_weight c.args.program.now a + offers_weight c.args.program.now a) c.requires _ (got_of c.args.actions.now _ c.args.x (Some c.in-Some.sums) refl c.in-Some.ensures.lookup) (λ a h. sum_weighs c.plus-in-Some.ensures (sum_weighs c.plus.ensures h.gate h.guard) h.offers)

pub returns-in-None : goal.returns-in-None
returns-in-None c = action_none c.args.program.now c.args.actions.now c.args.x (λ a. gate_weight c.args.program.now a + guard_weight c.args.program.now a + offers_weight c.args.program.now a) c.requires (got_of c.args.actions.now _ c.args.x None refl c.in-None.ensures.lookup) c.of.ensures
