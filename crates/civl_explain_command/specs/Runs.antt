-- A run, move by move: which thread moved, at which statement it stood, what its step did and what that changed; and where it stopped or
-- fails. (Execution traces of small-step interleaving.)
use Rattle.std.specs.Prelude.{ℕ, ◌+◌, nat_lt, if◌then◌else◌, List, [], ◌∷◌, ◌++◌, length, map, codes, decimal, Option, None, Some, slice_get, unwrap_or}
use Rattle.std.specs.Option.{option_map_or}
use Rattle.std.specs.List.{flat_map}
use Rattle.civl_tree.specs.declared.name.Name.{Name}
use Rattle.civl_tree.specs.declared.program.Proc.{Proc}
use Rattle.civl_tree.specs.declared.program.Program.{Program}
use Rattle.civl_tree.specs.declared.script.Script.{Script}
use Rattle.civl_tree.specs.Numbering.{proc_item}
use Rattle.civl_tree.specs.rules.Names.{global_names, param_names}
use Rattle.civl_firing.specs.Scope.{local_names}
use Rattle.civl_firing.specs.declared.store.Store.{Store}
use Rattle.civl_path_stories.specs.Paths.{name_at}
use Rattle.civl_meaning.specs.declared.config.Move.{Move}
use Rattle.civl_meaning.specs.declared.config.Plain.{Plain}
use Rattle.civl_meaning.specs.declared.config.Stepped.{Stepped}
use Rattle.civl_meaning.specs.Step.{start}
use Rattle.civl_script.specs.replays.Trace.{trace_of}
use Rattle.civl_script.specs.declared.replays.trace.Trace.{Trace}
use Rattle.civl_history.specs.declared.changes.Changed.{Changed}
use Rattle.civl_history.specs.declared.moves.MadeMove.{MadeMove}
use Rattle.civl_history.specs.declared.moves.StepKind.{StepKind}
use Rattle.civl_history.specs.declared.moves.StepKind.TheVariants.{Goes, Acts, Enters, Returns, Ends, Spawns}
use Rattle.civl_history.specs.declared.stand.Stand.{Stand}
use Rattle.civl_history.specs.declared.stand.Stand.TheVariants.{Begins, Before, Leaves, Ended}
use Rattle.civl_history.specs.History.{history, last_of, stopped_thread, thread_stands}
use Rattle.civl_places.specs.Starts.{statement_start}
use Rattle.civl_lex.specs.declared.token.Token.{Token as Placed}
use Rattle.civl_command.specs.Report.{answer_text, run_text}
use Rattle.civl_lines.specs.declared.line.Kind.{Kind}
use Rattle.civl_lines.specs.declared.line.Kind.TheVariants.{Info, Error}
use Rattle.civl_lines.specs.declared.line.Shown.{Shown}
use Rattle.civl_lines.specs.declared.line.Shown.TheVariants.{Head, Tokens}
use Rattle.civl_lines.specs.declared.line.Line.{Line}
use Rattle.civl_lines.specs.declared.render.Form.{Form}
use Rattle.civl_lines.specs.Rendered.{lines_text}
use Rattle.civl_lines.specs.Pieces.{change_text}
use Rattle.civl_refusals.specs.Refusals.{item_at}
use Rattle.civl_refusals.specs.Scripts.{part_start}

-- ---- where a thread stands

-- the token of a procedure, if there is one
abbrev pub proc_token : Program → ℕ → ℕ
proc_token program number = if nat_lt number (length program.procs) then item_at program (proc_item program number) else 0

-- the token at which a thread stands, and what is shown there: a statement, or the procedure that begins, ends or has ended
abbrev pub stand_token : Program → Stand → ℕ
stand_token program (Begins number) = proc_token program number
stand_token program (Before number statement) = unwrap_or (statement_start program number statement) 0
stand_token program (Leaves number) = proc_token program number
stand_token program (Ended number) = proc_token program number

abbrev pub stand_shown : Stand → Shown
stand_shown (Begins number) = Tokens 2
stand_shown (Before number statement) = Head
stand_shown (Leaves number) = Tokens 2
stand_shown (Ended number) = Tokens 2

abbrev pub stand_line : Program → Kind → Stand → List ℕ → Line
stand_line program kind stand text =
    record { token = stand_token program stand; shown = stand_shown stand; kind = kind; text = text }

-- ---- a move

-- the name of the procedure with this number
abbrev pub proc_name : Program → ℕ → List ℕ
proc_name program number = option_map_or (λ p. p.name.bytes) (slice_get program.procs number) []

-- what a step does, but for a statement that the line shows
abbrev pub kind_text : Program → StepKind → List ℕ
kind_text program Goes = []
kind_text program Acts = []
kind_text program (Enters number) = codes ", enters " ++ proc_name program number
kind_text program (Returns number) = codes ", returns to " ++ proc_name program number
kind_text program Ends = codes ", ends"
kind_text program (Spawns thread) = codes ", spawns thread " ++ decimal thread

-- a thread whose first call means an action ends with it
abbrev pub first_text : Program → StepKind → List ℕ
first_text program Acts = codes ", ends"
first_text program kind = kind_text program kind

-- what the step of a thread does that stood here
abbrev pub step_text : Program → Stand → StepKind → List ℕ
step_text program (Begins number) kind = first_text program kind
step_text program _ kind = kind_text program kind

-- the names of a procedure's frame
abbrev pub frame_names : Proc → List Name
frame_names proc = param_names proc.params ++ (param_names proc.outs ++ local_names proc.locals)

-- the procedure whose locals a move changes: that into which it returns, or else that in which the thread stood
abbrev pub changed_proc : Stand → StepKind → ℕ
changed_proc stand (Returns number) = number
changed_proc (Before number statement) kind = number
changed_proc stand kind = 0

abbrev pub names_changed : Program → MadeMove → List Name
names_changed program made = option_map_or frame_names (slice_get program.procs (changed_proc made.stood made.kind)) []

-- `, name: before -> after` of each of these
abbrev pub changes_text : List Name → List Changed → List ℕ
changes_text names changes = flat_map (λ c. codes ", " ++ change_text (name_at names c.place) c.before c.after) changes

abbrev pub move_text : Program → MadeMove → List ℕ
move_text program made =
    codes "thread " ++ (decimal made.thread ++ (step_text program made.stood made.kind
    ++ (changes_text (global_names program.globals) made.globals ++ changes_text (names_changed program made) made.locals)))

abbrev pub move_line : Program → MadeMove → Line
move_line program made = stand_line program Info made.stood (move_text program made)

-- ---- where a run ends

-- the move that isn't made
abbrev pub stopped_text : Option ℕ → Option Stepped → List ℕ
stopped_text (Some thread) (Some answer) = codes "thread " ++ (decimal thread ++ (codes ": " ++ answer_text answer))
stopped_text _ _ = []

abbrev pub failing_text : Option ℕ → List ℕ
failing_text (Some thread) = codes "thread " ++ (decimal thread ++ codes " fails")
failing_text None = []

-- at a place where a thread stands, if it does
abbrev pub end_line : Program → Kind → Option Stand → List ℕ → List Line
end_line program kind stand text = option_map_or (λ s. stand_line program kind s text ∷ []) stand []

-- the move with this number, among those of the script
abbrev pub move_token : Script → ℕ → ℕ
move_token script number = part_start script (length script.store + number)

abbrev pub at_move : Script → ℕ → List ℕ → Line
at_move script number text = record { token = move_token script number; shown = Head; kind = Info; text = text }

-- the move that isn't made: where its thread stands, or at the move itself, where there is no such thread
abbrev pub stopped_lines : Script → Program → ℕ → Option ℕ → Option Stand → List ℕ → List Line
stopped_lines script program number None stand text = []
stopped_lines script program number (Some thread) stand text =
    option_map_or (λ s. stand_line program Info s text) stand (at_move script number text) ∷ []

abbrev pub run_lines : Script → Plain → Store → List Move → Trace → List Line
run_lines script plain store moves trace =
    map (move_line plain.program) (history plain (start plain store) moves)
    ++ (stopped_lines script plain.program trace.moved (stopped_thread moves trace.moved)
    (thread_stands plain (last_of plain store moves) (stopped_thread moves trace.moved))
    (stopped_text (stopped_thread moves trace.moved) trace.stopped)
    ++ end_line plain.program Error (thread_stands plain (last_of plain store moves) trace.failing) (failing_text trace.failing))

-- the moves one by one, and behind them what `civl` reports
abbrev pub run_told : Form → List ℕ → List Placed → Script → Plain → Store → List Move → List ℕ
run_told form bytes tokens script plain store moves =
    lines_text form bytes tokens (run_lines script plain store moves (trace_of plain store moves))
    ++ run_text plain.program (trace_of plain store moves)
