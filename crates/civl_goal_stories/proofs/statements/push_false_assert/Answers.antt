use Rattle.std.proofs.Common.{◌++◌, ◌∷◌, [], ℕ, ap, ◌∙◌}
use Rattle.std.specs.Prelude.{codes}
use Rattle.civl_lines.specs.declared.line.Shown.TheVariants.{Head}
use Rattle.civl_path_stories.specs.Paths.{error}
use Rattle.civl_path_stories.proofs.Chains.{behind_one}
use Rattle.civl_goal_stories.proofs.statements.push_false_assert.Goals as goal

pub returns : goal.returns
returns c =
    behind_one _ _ c.args.lines.now.items _ _ (c.in_ok-push_error.ensures
    ∙ ap (λ (at : ℕ). c.args.lines.now.items ++ error at Head (codes "this is false") ∷ []) c.token-at.ensures)
    c.in_ok-push_why.ensures
