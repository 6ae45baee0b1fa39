-- K11: an action that loses a target, an invariant of the step or what another thread's yield says (interference freedom: Owicki
-- and Gries, 1976).
use Rattle.std.specs.Prelude.{ℕ, ◌+◌, List, [], ◌∷◌, Option, codes}
use Rattle.std.specs.Option.{option_map_or}
use Rattle.civl_bits.specs.declared.value.Value.{Value}
use Rattle.civl_tree.specs.declared.program.Proc.{Proc}
use Rattle.civl_tree.specs.declared.program.Program.{Program}
use Rattle.civl_firing.specs.declared.store.Store.{Store}
use Rattle.civl_layers.specs.declared.cut.Cut.{Cut}
use Rattle.civl_conditions.specs.declared.condition.Condition.{Condition}
use Rattle.civl_conditions.specs.declared.condition.Condition.TheVariants as condition
use Rattle.civl_conditions.specs.declared.condition.Target.{Target}
use Rattle.civl_conditions.specs.declared.condition.Target.TheVariants as target
use Rattle.civl_conditions.specs.paths.NoteValues.{steady_note_values}
use Rattle.civl_conditions.specs.paths.Seen.{exists_near}
use Rattle.civl_conditions.specs.Steps.{of_cut}
use Rattle.civl_conditions.specs.Targets.{Other, other_of}
use Rattle.civl_conditions.specs.Values.{count_of, instance_count}
use Rattle.civl_places.specs.declared.formula.Formula.TheVariants as formula
use Rattle.civl_places.specs.declared.formula.InStatement.TheVariants as of_statement
use Rattle.civl_places.specs.Starts.{statement_start}
use Rattle.civl_clashes.specs.declared.violations.Effect.{Effect}
use Rattle.civl_lines.specs.declared.line.Kind.TheVariants as kind
use Rattle.civl_lines.specs.declared.line.Shown.TheVariants.{Head}
use Rattle.civl_lines.specs.declared.line.Line.{Line}
use Rattle.civl_lines.specs.Pieces.{of_other}
use Rattle.civl_action_stories.specs.Actors.{Actor, makes, named_parts_of}
use Rattle.civl_action_stories.specs.Starts.{invariant_place, invariant_story}

-- the token of a statement of the procedure with this number, or 0
abbrev pub statement_token : Program → ℕ → ℕ → ℕ
statement_token program q statement = option_map_or (λ t. t) (statement_start program q statement) 0

-- the line at a cut whose statement begins at this token
abbrev pub cut_line : ℕ → Line
cut_line token = record { token = token; shown = Head; kind = kind.Error; text = codes "what it says is lost" }

-- that what a cut of the procedure with this number says is lost of this frame, and why, with the names of the frame as another thread's
abbrev pub yield_story : Program → ℕ → Store → Proc → Cut → Other → List Line
yield_story program q g proc cut other =
    cut_line (statement_token program q cut.statement)
    ∷ named_parts_of program (of_other program.globals) (formula.Statement q cut.statement of_statement.Invariant)
    (steady_note_values program.globals proc g other.locals other.done)

-- the same of the frame whose values stand from a place on
abbrev pub yield_at : Program → ℕ → Store → List Value → ℕ → Proc → Cut → List Line
yield_at program q g values at proc cut = yield_story program q g proc cut (other_of proc values at)

-- a target that is lost in a store; the values of another thread's frame stand from a place on
abbrev pub target_story : Program → ℕ → Store → List Value → ℕ → Target → List Line
target_story program step g values at (target.Invariant i) =
    invariant_story program (invariant_place step program.invariants i) (codes "is lost") g
target_story program step g values at (target.Yield q c) =
    of_cut program q c [] (yield_at program q g values at)

-- x loses this target; the values of the frame stand behind those of the globals and of x
abbrev pub act_story : Program → ℕ → Target → List Value → Store → Effect → Actor → List Line
act_story program step target values g e x =
    makes [] program x g e
    ∷ target_story program step e.store values (count_of (exists_near step) program + instance_count x.action) target

abbrev pub stray_story : Program → Condition → List Value → Store → Effect → Actor → List Line
stray_story program (condition.Act step m target) values g e x = act_story program step target values g e x
stray_story program _ values g e x = []
