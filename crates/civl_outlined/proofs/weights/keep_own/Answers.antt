use Rattle.std.proofs.Common.{Some, None, refl}
use Rattle.civl_conditions.specs.Weights.{keep_weight}
use Rattle.civl_weighing.proofs.Listing.{got_of}
use Rattle.civl_weights.proofs.Finding.{action_there, action_none}
use Rattle.civl_outlined.proofs.weights.keep_own.Goals as goal

pub returns-in-Some : goal.returns-in-Some
returns-in-Some c =
    action_there c.args.program.now c.args.actions.now c.args.number (keep_weight c.args.program.now) c.requires.actions _ (got_of c.args.actions.now _ c.args.number (Some c.in-Some.sums) refl c.in-Some.ensures.lookup) (λ a h. c.keep_of.ensures.is a h)

pub returns-in-None : goal.returns-in-None
returns-in-None c = action_none c.args.program.now c.args.actions.now c.args.number (keep_weight c.args.program.now) c.requires.actions (got_of c.args.actions.now _ c.args.number None refl c.in-None.ensures.lookup) c.of.ensures
