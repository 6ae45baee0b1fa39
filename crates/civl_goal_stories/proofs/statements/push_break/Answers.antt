use Rattle.std.proofs.Common.{◌++◌, ◌∷◌, [], ℕ, ap, ◌∙◌}
use Rattle.std.specs.Prelude.{codes}
use Rattle.civl_lines.specs.declared.line.Shown.TheVariants.{Nothing}
use Rattle.civl_path_stories.specs.Paths.{error}
use Rattle.civl_goal_stories.proofs.Chained.{behind_some}
use Rattle.civl_goal_stories.proofs.statements.push_break.Goals as goal

pub returns : goal.returns
returns c =
    behind_some _ _ _ c.args.lines.now.items _ _ _ c.in_ok-push_step.ensures (c.in_ok-push_error.ensures
    ∙ ap (λ (at : ℕ). c.push_step.new.lines.items ++ error at Nothing (codes "the invariant is false behind it") ∷ []) c.token.ensures)
    c.in_ok-push_invariant.ensures
