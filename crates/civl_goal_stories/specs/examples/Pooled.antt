-- The story of a goal on permissions: of an outline without holds and notes, whose action gives a permission that the pool keeps.
--
--     civl 1; layers 1; permissions 1;
--     global linear pool : word(2) layers 0 to 1;
--     init true;
--     action Copy() -> (give n : word(1)) choose () layers 1 to 1 atomic gate true guard true { n := 0:1; }
--     schedule
use Rattle.std.specs.Prelude.{◌≡◌, true, [], ◌∷◌, codes}
use Rattle.std.specs.Option.{option_map_or}
use Rattle.civl_tree.specs.declared.expr.Expr as expr
use Rattle.civl_tree.specs.declared.expr.Sort.TheVariants as sort
use Rattle.civl_tree.specs.declared.action.Mode.TheVariants.{Give}
use Rattle.civl_tree.specs.declared.program.Program.{Program}
use Rattle.civl_firing.specs.examples.Written.{word, lit, named, param, update, action}
use Rattle.civl_outlines.specs.declared.outline.Outline.{Outline}
use Rattle.civl_goals.specs.declared.goal.Goal.TheVariants.{Linear}
use Rattle.civl_goal_losses.specs.GoalLosses.{goal_loss}
use Rattle.civl_lines.specs.declared.line.Shown.TheVariants.{Tokens}
use Rattle.civl_path_stories.specs.Paths.{error, info}
use Rattle.civl_goal_stories.specs.GoalStories.{goal_story}

abbrev pooling : Program
pooling = record {
  version = 1;
  layers = 1;
  permissions = 1;
  globals = record { linear = true; name = named (codes "pool"); sort = sort.Word 2; first = 0; last = 1 } ∷ [];
  init = expr.True;
  invariants = [];
  actions =
      action (codes "Copy") [] (param Give (codes "n") (sort.Word 1) ∷ []) [] 1 1 expr.True expr.True (update (codes "n") (lit 0 1) ∷ [])
      ∷ [];
  procs = [];
  threads = [];
}

abbrev pooled : Outline
pooled = record { program = pooling; holds = []; notes = [] }

-- the pool has the permission 0
abbrev pub LinearStory : Type 0
LinearStory =
    option_map_or (goal_story pooled (Linear 0)) (goal_loss pooling pooled (Linear 0) (word 2 1 ∷ [])) []
    ≡ info 25 (Tokens 2) (codes "Copy: n = 0:1")
    ∷ error 25 (Tokens 2) (codes "permission 0 comes out twice: pool and n")
    ∷ []
