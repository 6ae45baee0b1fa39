use Rattle.std.proofs.Common.{Some, None}
use Rattle.civl_weights.specs.Kinds.{act_weight}
use Rattle.civl_weighing.proofs.Listing.{got_of}
use Rattle.civl_weights.proofs.Finding.{action_there, action_none}
use Rattle.civl_weights.proofs.kinds.act_own.Goals as goal

pub returns-in-Some : goal.returns-in-Some
returns-in-Some c = record { is = λ t k. action_there c.args.program.now c.args.tables.now.actions c.args.x (act_weight c.args.program.now c.args.step.now.step t) c.requires.tables.actions _ (got_of c.as_slice.result.now _ c.args.x (Some c.in-Some.sums) c.as_slice.ensures c.in-Some.ensures.lookup) (λ a h. c.act_of.ensures.is c.args.step.now.step a t c.requires.step.together h k) }

pub returns-in-None : goal.returns-in-None
returns-in-None c = record { is = λ t k. action_none c.args.program.now c.args.tables.now.actions c.args.x (act_weight c.args.program.now c.args.step.now.step t) c.requires.tables.actions (got_of c.as_slice.result.now _ c.args.x None c.as_slice.ensures c.in-None.ensures.lookup) c.of.ensures }
