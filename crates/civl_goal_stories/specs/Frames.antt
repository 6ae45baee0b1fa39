-- What a story says of a frame of a root: what is assumed of it, its values, what its statement does, and why a note is false (proof
-- outlines: Owicki and Gries, An axiomatic proof technique for parallel programs I, Acta Informatica, 1976).
use Rattle.std.specs.Prelude.{ℕ, ◌+◌, if◌then◌else◌, List, [], ◌∷◌, ◌++◌, length, codes, unwrap_or}
use Rattle.std.specs.Option.{option_map_or}
use Rattle.civl_bits.specs.Value.{same_value}
use Rattle.civl_bits.specs.declared.value.Value.{Value}
use Rattle.civl_tree.specs.declared.name.Name.{Name}
use Rattle.civl_tree.specs.declared.program.Proc.{Proc}
use Rattle.civl_tree.specs.declared.program.Program.{Program}
use Rattle.civl_tree.specs.Numbering.{proc_item}
use Rattle.civl_outlines.specs.declared.outline.Outline.{Outline}
use Rattle.civl_firing.specs.declared.store.Store.{Store}
use Rattle.civl_firing.specs.Scope.{frame_values}
use Rattle.civl_meaning.specs.declared.config.Activation.{Activation}
use Rattle.civl_conditions.specs.Invariants.{holds_in}
use Rattle.civl_conditions.specs.paths.NoteValues.{note_names, plain_note_values}
use Rattle.civl_conditions.specs.Steps.{each_at, of_proc}
use Rattle.civl_goal_losses.specs.declared.losses.Moment.{Moment}
use Rattle.civl_places.specs.declared.formula.Formula.TheVariants as formula
use Rattle.civl_places.specs.declared.formula.InStatement.TheVariants as part
use Rattle.civl_places.specs.Formulas.{formula_at}
use Rattle.civl_places.specs.Starts.{item_start, statement_start}
use Rattle.civl_verdicts.specs.models.Text.{bool_text, listed}
use Rattle.civl_lines.specs.declared.line.Shown.TheVariants.{Nothing, Head, Tokens}
use Rattle.civl_lines.specs.declared.line.Line.{Line}
use Rattle.civl_lines.specs.Pieces.{equation, change_text, part_lines}
use Rattle.civl_action_stories.specs.Actors.{with_text}
use Rattle.civl_path_stories.specs.Paths.{error, info, name_at}
use Rattle.civl_goal_stories.specs.Places.{note_before, note_number, note_start}

-- ---- where it stands

-- the token of a statement of the procedure with this number, or of its exit
abbrev pub token : Program → ℕ → ℕ → ℕ
token program r s = unwrap_or (statement_start program r s) 0

-- that before which a frame stands
abbrev pub frame_token : Program → Activation → ℕ
frame_token program frame = token program frame.procedure frame.place

-- the note that is assumed before a statement, or that there is none
abbrev pub assumed_line : Outline → ℕ → ℕ → Line
assumed_line outline r s =
    option_map_or (λ number. info (note_start outline number) Head (codes "is assumed"))
    (note_number outline r s) (info (token outline.program r s) Nothing (codes "no note is written here"))

-- the same, if the procedure is there
abbrev pub assumed_lines : Outline → ℕ → ℕ → List Line
assumed_lines outline r s = of_proc outline.program r [] (λ proc. assumed_line outline r s ∷ [])

-- ---- its values

-- `name = value` of each of these, whose names stand from this place on
abbrev pub value_texts : List Name → ℕ → List Value → List (List ℕ)
value_texts names at values = each_at (λ place value. equation (name_at names place) value ∷ []) at values

-- those of its parameters, outputs and locals
abbrev pub frame_texts : Program → Proc → List Value → List (List ℕ)
frame_texts program proc locals = value_texts (note_names program.globals proc) (length program.globals) locals

-- a word, and these values
abbrev pub frame_line : Program → List ℕ → ℕ → List Value → Proc → Line
frame_line program word r locals proc =
    info (item_start program (proc_item program r)) (Tokens 2) (word ++ with_text (frame_texts program proc locals))

-- the same at its procedure
abbrev pub frame_lines : Program → List ℕ → Activation → List Line
frame_lines program word frame = of_proc program frame.procedure [] (λ proc. frame_line program word frame.procedure frame.locals proc ∷ [])

-- ---- what its statement does

-- `name: before -> after` of a value that changes, whose name stands at this place
abbrev pub change_at : List Name → ℕ → Value → Value → List (List ℕ)
change_at names place before after = if same_value before after then [] else change_text (name_at names place) before after ∷ []

-- the same of all, whose names stand from this place on; behind the end of the shorter list nothing is told
abbrev pub changes : List Name → ℕ → List Value → List Value → List (List ℕ)
changes names at [] afters = []
changes names at (before ∷ befores) [] = []
changes names at (before ∷ befores) (after ∷ afters) = change_at names at before after ++ changes names (at + 1) befores afters

-- of the globals, and of the frame's parameters, outputs and locals
abbrev pub change_texts : Program → Proc → Moment → Moment → List (List ℕ)
change_texts program proc here there =
    changes (note_names program.globals proc) 0 here.store.values there.store.values
    ++ changes (note_names program.globals proc) (length program.globals) here.frame.locals there.frame.locals

-- on the way from here to there: whether the statement's condition is true, where it has one, or what it changes
abbrev pub passage_text : Program → Moment → Moment → Proc → List ℕ
passage_text program here there proc =
    option_map_or (λ test. bool_text (holds_in (frame_values program.globals proc here.frame.locals) test.expr))
    (formula_at program (formula.Statement here.frame.procedure here.frame.place part.Condition))
    (listed (change_texts program proc here there))

abbrev pub passage_line : Program → Moment → Moment → Proc → Line
passage_line program here there proc = info (frame_token program here.frame) Head (passage_text program here there proc)

abbrev pub passage_lines : Program → Moment → Moment → List Line
passage_lines program here there = of_proc program here.frame.procedure [] (λ proc. passage_line program here there proc ∷ [])

-- ---- its note

-- the false parts of the note before which a frame of this procedure stands
abbrev pub note_parts : Outline → Store → Activation → Proc → List Line
note_parts outline g frame proc =
    option_map_or (part_lines (plain_note_values outline.program.globals proc g frame.locals))
    (note_before outline frame.procedure frame.place) []

-- that the note is false, and why
abbrev pub note_lines : Outline → List ℕ → Store → Activation → List Line
note_lines outline text g frame =
    error (frame_token outline.program frame) Head text ∷ of_proc outline.program frame.procedure [] (note_parts outline g frame)
