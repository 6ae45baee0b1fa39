use Rattle.std.proofs.Common.{Some, None}
use Rattle.civl_conditions.specs.Weights.{keep_weight}
use Rattle.civl_weighing.proofs.Listing.{got_of}
use Rattle.civl_weights.proofs.Finding.{action_there, action_none}
use Rattle.civl_weights.proofs.kinds.keep_own.Goals as goal

pub returns-in-Some : goal.returns-in-Some
returns-in-Some c = action_there c.args.program.now c.args.tables.now.actions c.args.x (keep_weight c.args.program.now) c.requires.actions _ (got_of c.as_slice.result.now _ c.args.x (Some c.in-Some.sums) c.as_slice.ensures c.in-Some.ensures.lookup) (λ a h. c.keep_of.ensures.is a h)

pub returns-in-None : goal.returns-in-None
returns-in-None c = action_none c.args.program.now c.args.tables.now.actions c.args.x (keep_weight c.args.program.now) c.requires.actions (got_of c.as_slice.result.now _ c.args.x None c.as_slice.ensures c.in-None.ensures.lookup) c.of.ensures
