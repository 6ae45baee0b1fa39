use Rattle.std.proofs.Common.{Some, None}
use Rattle.civl_conditions.specs.Steps.{of_action}
use Rattle.civl_conditions.specs.Weights.{pair_weight}
use Rattle.civl_weighing.proofs.Listing.{got_of}
use Rattle.civl_weights.proofs.Finding.{action_there, action_none}
use Rattle.civl_weights.proofs.kinds.pair_own.Goals as goal

pub returns-in-Some-get : goal.returns-in-Some-get
returns-in-Some-get c = action_there c.args.program.now c.args.tables.now.actions c.args.x (λ a. of_action c.args.program.now c.args.y 0 (pair_weight c.args.program.now c.args.step.now.step a)) c.requires.tables.actions _ (got_of c.as_slice-actions.result.now _ c.args.x (Some c.in-Some.first) c.as_slice-actions.ensures c.in-Some.ensures.lookup) (λ a h. action_there c.args.program.now c.args.tables.now.actions c.args.y (pair_weight c.args.program.now c.args.step.now.step a) c.requires.tables.actions _ (got_of c.as_slice-actions.result.now _ c.args.y (Some c.in-Some-get.second) c.as_slice-actions.ensures c.in-Some-get.ensures.lookup) (λ b k. c.pair_of.ensures.is a b h k))

pub returns-in-None-get : goal.returns-in-None-get
returns-in-None-get c = action_there c.args.program.now c.args.tables.now.actions c.args.x (λ a. of_action c.args.program.now c.args.y 0 (pair_weight c.args.program.now c.args.step.now.step a)) c.requires.tables.actions _ (got_of c.as_slice-actions.result.now _ c.args.x (Some c.in-Some.first) c.as_slice-actions.ensures c.in-Some.ensures.lookup) (λ a h. action_none c.args.program.now c.args.tables.now.actions c.args.y (pair_weight c.args.program.now c.args.step.now.step a) c.requires.tables.actions (got_of c.as_slice-actions.result.now _ c.args.y None c.as_slice-actions.ensures c.in-None-get.ensures.lookup) c.of.ensures)

pub returns-in-None : goal.returns-in-None
returns-in-None c = action_none c.args.program.now c.args.tables.now.actions c.args.x (λ a. of_action c.args.program.now c.args.y 0 (pair_weight c.args.program.now c.args.step.now.step a)) c.requires.tables.actions (got_of c.as_slice-actions.result.now _ c.args.x None c.as_slice-actions.ensures c.in-None.ensures.lookup) c.of-in-None.ensures
