use Rattle.std.proofs.Common.{◌∙◌, ℕ, ap, drop}
use Rattle.civl_conditions.specs.Targets.{frame_size}
use Rattle.civl_goals.proofs.Unheld.{of_some, of_none}
use Rattle.civl_goal_losses.proofs.reading.behind_locals.Goals as goal

pub returns-in-Some : goal.returns-in-Some
returns-in-Some c =
    c.behind_frame.ensures
    ∙ ap (λ (n : ℕ). drop n c.args.values.now) (
    of_some frame_size 0 c.args.program.now c.as_slice.result.now c.args.number c.in-Some.proc.now c.as_slice.ensures c.in-Some.ensures.lookup.3.0 c.in-Some.ensures.lookup.1
    )

pub returns-in-None : goal.returns-in-None
returns-in-None c =
    c.behind.ensures
    ∙ ap (λ (n : ℕ). drop n c.args.values.now) (of_none frame_size 0 c.args.program.now c.as_slice.result.now c.args.number c.as_slice.ensures c.in-None.ensures.lookup.3)
