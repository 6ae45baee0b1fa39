use Rattle.std.proofs.Common.{◌≡◌, ◌+◌, ◌∙◌, length, drop, ap, subst}
use Rattle.std.specs.Prelude.{Option, IfOk}
use Rattle.civl_tree.specs.declared.program.Program.{Program}
use Rattle.civl_goals.specs.Variables.{choices_at}
use Rattle.civl_goals.specs.Failed.{behind_frame, chosen_of, frame_of, store_in}
use Rattle.civl_goal_losses.specs.declared.losses.GoalLoss.{GoalLoss}
use Rattle.civl_goal_losses.proofs.Asking.{told_so}
use Rattle.civl_goal_losses.proofs.told.of_statement.Goals as goal

pub returns-in-Ok : goal.returns-in-Ok
returns-in-Ok c =
    let r = c.args.root in
    let s = c.args.statement in
    let vs = c.args.values.now in
    let told =
    told_so c.args.src.now c.args.outline.now c.args.goal r s vs _ _ _ _
    (c.in-Ok.ensures ∙ ap (λ (p : Program). store_in p vs) c.program-2.ensures.same)
    (c.in_ok-given.ensures.locals ∙ ap (λ (p : Program). (frame_of p vs r s).locals) c.program.ensures.same)
    (c.in_ok-given.ensures.chosen ∙ ap (λ (p : Program). chosen_of p vs r s) c.program.ensures.same)
    (c.in_ok-given.ensures.rest ∙ ap (λ (p : Program). drop (behind_frame p r + length (choices_at p r s)) vs) c.program.ensures.same) in
    subst (λ (o : Option GoalLoss). IfOk c.loss_from.result (λ t. t ≡ o)) told c.loss_from.ensures
