-- The story of a goal of an outline that fails, line by line: what is assumed before the statement, what it does, and the gate, the
-- invariant or the note that is false then (proof outlines and interference: Owicki and Gries, 1976).
use Rattle.std.specs.Prelude.{ℕ, ◌+◌, List, [], ◌∷◌, ◌++◌, codes, slice_get}
use Rattle.std.specs.Option.{option_map_or}
use Rattle.civl_tree.specs.declared.expr.Expr.{Expr}
use Rattle.civl_tree.specs.declared.program.Proc.{Proc}
use Rattle.civl_tree.specs.declared.program.Program.{Program}
use Rattle.civl_tree.specs.Numbering.{init_item, thread_item}
use Rattle.civl_outlines.specs.declared.outline.Outline.{Outline}
use Rattle.civl_firing.specs.declared.store.Store.{Store}
use Rattle.civl_firing.specs.Scope.{frame_values, global_values}
use Rattle.civl_meaning.specs.declared.config.Activation.{Activation}
use Rattle.civl_conditions.specs.Steps.{each_at, of_proc}
use Rattle.civl_goals.specs.declared.goal.Goal.{Goal}
use Rattle.civl_goals.specs.declared.goal.Goal.TheVariants as goal
use Rattle.civl_goal_losses.specs.declared.losses.Fault.{Fault}
use Rattle.civl_goal_losses.specs.declared.losses.Fault.TheVariants.{FalseGate, FalseAssert}
use Rattle.civl_goal_losses.specs.declared.losses.GoalLoss.{GoalLoss}
use Rattle.civl_goal_losses.specs.declared.losses.GoalLoss.TheVariants.{Starts, Begins, Loses, Fails, Breaks, Leads, Interferes}
use Rattle.civl_goal_losses.specs.declared.losses.Moment.{Moment}
use Rattle.civl_places.specs.declared.formula.Formula.TheVariants as formula
use Rattle.civl_places.specs.declared.formula.InStatement.TheVariants as part
use Rattle.civl_places.specs.Formulas.{placed}
use Rattle.civl_places.specs.Starts.{item_start}
use Rattle.civl_lines.specs.declared.line.Shown.TheVariants.{Nothing, Head, Tokens}
use Rattle.civl_lines.specs.declared.line.Line.{Line}
use Rattle.civl_lines.specs.Pieces.{part_lines}
use Rattle.civl_action_stories.specs.Actors.{of_actor}
use Rattle.civl_action_stories.specs.Losses.{loss_story}
use Rattle.civl_path_stories.specs.Paths.{error, gate_parts, gate_text, info, parts}
use Rattle.civl_goal_stories.specs.Places.{hold_start}
use Rattle.civl_goal_stories.specs.Frames.{assumed_lines, frame_lines, frame_token, note_lines, passage_lines, token}

-- ---- the invariant

-- the false parts of a hold with its number
abbrev pub hold_parts : Outline → Store → ℕ → Expr → List Line
hold_parts outline g number hold =
    part_lines (global_values outline.program.globals g) (placed (hold_start outline number + 1) hold)

-- those of all holds
abbrev pub invariant_parts : Outline → Store → List Line
invariant_parts outline g = each_at (hold_parts outline g) 0 outline.holds

-- O1: an initial store in which it is false
abbrev pub start_story : Outline → Store → List Line
start_story outline g =
    error (item_start outline.program (init_item outline.program)) (Tokens 1) (codes "an initial store without the invariant")
    ∷ invariant_parts outline g

-- ---- beginnings

-- what begins: the thread that is declared, or the statement that spawns it
abbrev pub beginner_lines : Outline → Goal → List Line
beginner_lines outline (goal.Thread i) =
    option_map_or (λ t. info (item_start outline.program (thread_item outline.program i)) Head (codes "in this initial store") ∷ [])
    (slice_get outline.program.threads i) []
beginner_lines outline (goal.Spawn r s) = assumed_lines outline r s ++ info (token outline.program r s) Head [] ∷ []
beginner_lines outline _ = []

-- O1 and O2 spawn: a first frame of which the note is false
abbrev pub begin_story : Outline → Goal → Moment → List Line
begin_story outline goal first =
    beginner_lines outline goal
    ++ (frame_lines outline.program (codes "begins") first.frame
    ++ note_lines outline (codes "the note here is false") first.store first.frame)

-- ---- statements

-- the false parts of what an assert says, before which a frame of this procedure stands
abbrev pub assert_parts : Program → Activation → Proc → List Line
assert_parts program frame proc =
    parts program (frame_values program.globals proc frame.locals) (formula.Statement frame.procedure frame.place part.Condition)

-- a gate or an assert that is false
abbrev pub fault_lines : Program → Moment → Fault → List Line
fault_lines program here (FalseGate number inputs) =
    error (frame_token program here.frame) Head (gate_text program number inputs) ∷ gate_parts program number here.store inputs
fault_lines program here FalseAssert =
    error (frame_token program here.frame) Head (codes "this is false")
    ∷ of_proc program here.frame.procedure [] (assert_parts program here.frame)

-- O2 safe
abbrev pub fail_story : Outline → Moment → Fault → List Line
fail_story outline here fault = assumed_lines outline here.frame.procedure here.frame.place ++ fault_lines outline.program here fault

-- what is assumed before a statement, and what it does
abbrev pub step_lines : Outline → Moment → Moment → List Line
step_lines outline here there =
    assumed_lines outline here.frame.procedure here.frame.place ++ passage_lines outline.program here there

-- O2 invariant: where it leads, the invariant is false
abbrev pub break_story : Outline → Moment → Moment → List Line
break_story outline here there =
    step_lines outline here there
    ++ error (frame_token outline.program here.frame) Nothing (codes "the invariant is false behind it")
    ∷ invariant_parts outline there.store

-- O2 next: there the note is false before which the frame then stands
abbrev pub lead_story : Outline → Moment → Moment → List Line
lead_story outline here there =
    step_lines outline here there ++ note_lines outline (codes "the note here is false") there.store there.frame

-- O3: there the note of another thread's frame is false
abbrev pub interfere_story : Outline → Moment → Moment → Activation → List Line
interfere_story outline here there other =
    step_lines outline here there
    ++ (frame_lines outline.program (codes "another thread") other
    ++ note_lines outline (codes "the note here is false for it") there.store other)

-- ---- all

-- of a goal of the outline, by how values violate it
unfoldable pub goal_story : Outline → Goal → GoalLoss → List Line
goal_story outline goal (Starts g) = start_story outline g
goal_story outline goal (Begins first) = begin_story outline goal first
goal_story outline goal (Loses g instance effect loss) = of_actor outline.program instance (loss_story outline.program g effect loss)
goal_story outline goal (Fails here fault) = fail_story outline here fault
goal_story outline goal (Breaks here there) = break_story outline here there
goal_story outline goal (Leads here there) = lead_story outline here there
goal_story outline goal (Interferes here there other) = interfere_story outline here there other
