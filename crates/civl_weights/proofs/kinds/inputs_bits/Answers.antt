use Rattle.std.proofs.Common.{Some, None, refl}
use Rattle.civl_conditions.specs.Weights.{outs_bits}
use Rattle.civl_weighing.proofs.Listing.{got_of}
use Rattle.civl_weights.proofs.Finding.{action_there, action_none}
use Rattle.civl_weights.proofs.kinds.inputs_bits.Goals as goal

pub returns-in-Some : goal.returns-in-Some
returns-in-Some c = action_there c.args.program.now c.args.actions.now c.args.number (λ a. outs_bits a.params) c.requires _ (got_of c.args.actions.now _ c.args.number (Some c.in-Some.sums) refl c.in-Some.ensures.lookup) (λ a h. h.params)

pub returns-in-None : goal.returns-in-None
returns-in-None c = action_none c.args.program.now c.args.actions.now c.args.number (λ a. outs_bits a.params) c.requires (got_of c.args.actions.now _ c.args.number None refl c.in-None.ensures.lookup) c.of.ensures
