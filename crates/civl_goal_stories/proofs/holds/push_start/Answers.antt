use Rattle.std.proofs.Common.{◌++◌, ◌∷◌, [], ℕ, ap, ◌∙◌}
use Rattle.std.specs.Prelude.{codes}
use Rattle.civl_lines.specs.declared.line.Shown.TheVariants.{Tokens}
use Rattle.civl_path_stories.specs.Paths.{error}
use Rattle.civl_path_stories.proofs.Chains.{behind_one}
use Rattle.civl_goal_stories.proofs.holds.push_start.Goals as goal

pub returns : goal.returns
returns c =
    behind_one _ _ c.args.lines.now.items _ _ (c.in_ok-push_error.ensures
    ∙ ap (λ (at : ℕ). c.args.lines.now.items ++ error at (Tokens 1) (codes "an initial store without the invariant") ∷ [])
    c.init_token-at.ensures)
    c.in_ok-push_invariant.ensures
