use Rattle.std.proofs.Common.{sym, ap, ◌∙◌}
use Rattle.civl_meaning.specs.Meaning.{meaning_of_action, refined}
use Rattle.civl_meaning.proofs.Calling.{action_there, no_action}
use Rattle.civl_conditions.specs.paths.Choices.{action_meant}
use Rattle.civl_traces.proofs.meant.refinement.Goals as goal

pub returns-then-at-actions : goal.returns-then-at-actions
returns-then-at-actions c =
    let there = action_there c.args.program.now c.as_slice-actions.result.now c.as_slice-actions.ensures c.in-Some.refines.action c.action-at.result c.action-at.ensures
    c.index-actions-at.result c.if-at-actions.true c.index-actions-at.is in
    sym (ap action_meant (ap (refined c.args.program.now) c.in-Some.is ∙ ap meaning_of_action there))

pub returns-else-at-actions : goal.returns-else-at-actions
returns-else-at-actions c =
    let none = no_action c.args.program.now c.as_slice-actions.result.now c.as_slice-actions.ensures c.in-Some.refines.action c.action-at.result c.action-at.ensures
    c.if-at-actions.false in
    sym (ap action_meant (ap (refined c.args.program.now) c.in-Some.is ∙ ap meaning_of_action none))
