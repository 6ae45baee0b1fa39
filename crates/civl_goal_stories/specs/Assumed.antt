-- What the goals of a statement assume beside the note before it, line by line, but for permissions: the outline's invariant, and of another
-- thread its note (proof outlines and interference: Owicki and Gries, 1976).
use Rattle.std.specs.Prelude.{ℕ, List, [], ◌∷◌, ◌++◌, codes}
use Rattle.std.specs.Option.{option_map_or}
use Rattle.civl_tree.specs.declared.expr.Expr.{Expr}
use Rattle.civl_outlines.specs.declared.outline.Outline.{Outline}
use Rattle.civl_conditions.specs.Steps.{each_at, of_proc}
use Rattle.civl_goals.specs.declared.goal.Goal.{Goal}
use Rattle.civl_goals.specs.declared.goal.Goal.TheVariants as goal
use Rattle.civl_lines.specs.declared.line.Shown.TheVariants.{Head}
use Rattle.civl_lines.specs.declared.line.Line.{Line}
use Rattle.civl_path_stories.specs.Paths.{info}
use Rattle.civl_goal_stories.specs.Places.{hold_start, note_number, note_start}

-- a hold with its number
abbrev pub hold_line : Outline → ℕ → Expr → List Line
hold_line outline number hold = info (hold_start outline number) Head (codes "is assumed") ∷ []

-- the invariant, hold by hold
abbrev pub hold_lines : Outline → List Line
hold_lines outline = each_at (hold_line outline) 0 outline.holds

-- the note before a statement of another thread's procedure, if one is written there
abbrev pub elsewhere_line : Outline → ℕ → ℕ → List Line
elsewhere_line outline q t =
    option_map_or (λ number. info (note_start outline number) Head (codes "is assumed of another thread") ∷ []) (note_number outline q t) []

-- the same, if the procedure is there
abbrev pub elsewhere_lines : Outline → ℕ → ℕ → List Line
elsewhere_lines outline q t = of_proc outline.program q [] (λ proc. elsewhere_line outline q t)

-- of a goal of a statement; none of the others
abbrev pub goal_assumed : Outline → Goal → List Line
goal_assumed outline (goal.Safe r s) = hold_lines outline
goal_assumed outline (goal.Keep r s) = hold_lines outline
goal_assumed outline (goal.Spawn r s) = hold_lines outline
goal_assumed outline (goal.Next r s) = hold_lines outline
goal_assumed outline (goal.Other r s q t) = hold_lines outline ++ elsewhere_lines outline q t
goal_assumed outline _ = []
