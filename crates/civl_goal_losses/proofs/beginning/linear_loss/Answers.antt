use Rattle.std.proofs.Common.{◌∙◌, ap}
use Rattle.std.specs.Prelude.{Option, option_and_then}
use Rattle.civl_clashes.specs.declared.violations.Violation.{Violation}
use Rattle.civl_goal_losses.specs.GoalLosses.{as_loss}
use Rattle.civl_goal_losses.proofs.Linear.{by_layer}
use Rattle.civl_goal_losses.proofs.beginning.linear_loss.Goals as goal

pub returns-in-Ok : goal.returns-in-Ok
returns-in-Ok c =
    c.found_loss.ensures ∙ ap (λ (o : Option Violation). option_and_then as_loss o) (c.in-Ok.ensures ∙ by_layer c.args.program.now c.args.action c.args.values.now)
