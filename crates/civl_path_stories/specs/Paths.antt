-- The story of a condition K9 or K10 that fails at its values, line by line: where its path begins, each statement that the path passes,
-- with what this changes, and what is lost, with the parts of the formula that is false there. (A counterexample as an execution from its
-- initial values: Clarke, Grumberg, McMillan, Zhao, DAC 1995. Told in the lines of the source: Ball, Naik, Rajamani, POPL 2003.)
use Rattle.std.specs.Prelude.{ℕ, ◌+◌, ◌-◌, nat_eq, if◌then◌else◌, List, [], ◌∷◌, ◌++◌, map, codes}
use Rattle.std.specs.Prelude.{Option, None, Some, slice_get, slice_index_or}
use Rattle.std.specs.Option.{option_map_or, unwrap_or}
use Rattle.std.specs.List.{flat_map}
use Rattle.civl_bits.specs.declared.value.Value.{Value}
use Rattle.civl_tree.specs.declared.name.Name.{Name}
use Rattle.civl_tree.specs.declared.action.Action.{Action}
use Rattle.civl_tree.specs.declared.program.Invariant.{Invariant}
use Rattle.civl_tree.specs.declared.program.Refines.{Refines}
use Rattle.civl_tree.specs.declared.program.Proc.{Proc}
use Rattle.civl_tree.specs.declared.program.Program.{Program}
use Rattle.civl_tree.specs.Numbering.{proc_item, exit_number}
use Rattle.civl_tree.specs.rules.Names.{global_names, param_names}
use Rattle.civl_firing.specs.declared.store.Store.{Store}
use Rattle.civl_firing.specs.declared.scope.Scope.{Scope}
use Rattle.civl_firing.specs.Truth.{place_of}
use Rattle.civl_firing.specs.Scope.{global_values, gate_values, guard_values, frame_values}
use Rattle.civl_layers.specs.declared.cut.Cut.{Cut}
use Rattle.civl_layers.specs.Cuts.{proc_cuts}
use Rattle.civl_conditions.specs.declared.condition.Condition.{Condition}
use Rattle.civl_conditions.specs.declared.condition.Condition.TheVariants as condition
use Rattle.civl_conditions.specs.declared.condition.Target.{Target}
use Rattle.civl_conditions.specs.declared.condition.Target.TheVariants as target
use Rattle.civl_conditions.specs.paths.Ends.{is_entry}
use Rattle.civl_conditions.specs.paths.NoteValues.{note_names, steady_note_values}
use Rattle.civl_conditions.specs.Steps.{of_action, of_cut}
use Rattle.civl_conditions.specs.Values.{layout}
use Rattle.civl_conditions.specs.Assumed.{inputs_of}
use Rattle.civl_conditions.specs.Parts.{end_values}
use Rattle.civl_conditions.specs.Targets.{other_of}
use Rattle.civl_traces.specs.declared.walked.Changed.{Changed}
use Rattle.civl_traces.specs.declared.walked.Ending.{Ending}
use Rattle.civl_traces.specs.declared.walked.Ending.TheVariants.{Past}
use Rattle.civl_traces.specs.declared.walked.Passage.{Passage}
use Rattle.civl_traces.specs.Told.{progress}
use Rattle.civl_losses.specs.declared.loss.Loss.{Loss}
use Rattle.civl_losses.specs.declared.loss.Loss.TheVariants as loss
use Rattle.civl_losses.specs.Stories.{PathStory, story_from}
use Rattle.civl_places.specs.declared.formula.Formula.{Formula}
use Rattle.civl_places.specs.declared.formula.Formula.TheVariants as formula
use Rattle.civl_places.specs.declared.formula.InAction.TheVariants.{Gate, Guard}
use Rattle.civl_places.specs.declared.formula.InStatement.TheVariants as part
use Rattle.civl_places.specs.Formulas.{formula_at}
use Rattle.civl_places.specs.Starts.{item_start, statement_start}
use Rattle.civl_verdicts.specs.models.Text.{bool_text, listed, value_text}
use Rattle.civl_verdicts.specs.reports.Values.{beside}
use Rattle.civl_lines.specs.declared.line.Kind.TheVariants.{Info, Error}
use Rattle.civl_lines.specs.declared.line.Shown.{Shown}
use Rattle.civl_lines.specs.declared.line.Shown.TheVariants.{Nothing, Head, Tokens}
use Rattle.civl_lines.specs.declared.line.Line.{Line}
use Rattle.civl_lines.specs.Pieces.{Naming, as_written, of_other, equation, change_text, named_part_lines}
use Rattle.civl_path_stories.specs.declared.around.Around.{Around}
use Rattle.civl_path_stories.specs.declared.around.Branch.{Branch}
use Rattle.civl_path_stories.specs.declared.around.Branch.TheVariants.{Body, First, Second}
use Rattle.civl_path_stories.specs.Around.{around}

-- a path of which a story is told, of a condition at this step: its procedure with its number, the cut where it begins, and what it passes
pub record Told : Type 0 where
  pub program : Program
  pub step : ℕ
  pub number : ℕ
  pub proc : Proc
  pub cut : Cut
  pub path : PathStory

-- the token of a statement of the procedure, or of its exit
abbrev pub token : Told → ℕ → ℕ
token t statement = unwrap_or (statement_start t.program t.number statement) 0

-- a line that tells what happens
abbrev pub info : ℕ → Shown → List ℕ → Line
info at shown text = record { token = at; shown = shown; kind = Info; text = text }

-- the line that tells what is lost
abbrev pub error : ℕ → Shown → List ℕ → Line
error at shown text = record { token = at; shown = shown; kind = Error; text = text }

-- ---- the path

-- where it begins: at the procedure, or at the statement that is the cut
abbrev pub begin_line : Told → Line
begin_line t =
    if is_entry t.cut.kind
    then info (item_start t.program (proc_item t.program t.number)) (Tokens 2) (codes "begins here")
    else info (token t t.cut.statement) Head (codes "begins here")

-- how the cut stands in a statement around it
abbrev pub branch_text : Branch → List ℕ
branch_text Body = codes "around it, in its body"
branch_text First = codes "around it, where it is true"
branch_text Second = codes "around it, where it is false"

abbrev pub around_line : Told → Around → Line
around_line t a = info (token t a.statement) Head (branch_text a.branch)

-- the statements around the cut; none are around the entry, whose statement is the first
abbrev pub around_lines : Told → List Line
around_lines t = map (around_line t) (around t.proc.body t.cut.statement)

-- the name at a place; empty where there is none
abbrev pub name_at : List Name → ℕ → Name
name_at names place = slice_index_or names place (record { bytes = [] })

-- `name: before -> after` of each of these, whose places are those of these names
abbrev pub change_texts : List Name → List Changed → List (List ℕ)
change_texts names changes = map (λ c. change_text (name_at names c.place) c.before c.after) changes

-- a statement that is passed: whether its condition was true, where it has one, or what it changes
abbrev pub passage_text : List Name → Passage → List ℕ
passage_text names q = option_map_or bool_text q.took (listed (change_texts names q.changed))

abbrev pub passage_line : Told → Passage → Line
passage_line t q = info (token t q.statement) Head (passage_text (note_names t.program.globals t.proc) q)

abbrev pub passage_lines : Told → List Passage → List Line
passage_lines t passed = map (passage_line t) passed

-- those before the first of this statement
abbrev pub before_statement : ℕ → List Passage → List Passage
before_statement statement [] = []
before_statement statement (q ∷ qs) = if nat_eq q.statement statement then [] else q ∷ before_statement statement qs

-- what is told of what is passed: all of it, but of a second commit only what stands before it
abbrev pub told_passages : Loss → List Passage → List Passage
told_passages (loss.CommitAgain statement) passed = before_statement statement passed
told_passages _ passed = passed

-- ---- where it ends

-- something is lost at this statement
abbrev pub lost_at : Told → ℕ → List ℕ → Line
lost_at t statement text = error (token t statement) Head text

-- something is lost at the exit
abbrev pub lost_at_exit : Told → List ℕ → Line
lost_at_exit t text = error (token t (exit_number t.proc.body)) Nothing text

-- something is lost where the path ends: past all statements at the exit, or before a statement
abbrev pub lost_by : Ending → Told → List ℕ → Line
lost_by Past t text = lost_at_exit t (codes "the exit: " ++ text)
lost_by _ t text = lost_at t t.path.walked.at text

abbrev pub lost_at_end : Told → List ℕ → Line
lost_at_end t text = lost_by t.path.walked.ending t text

-- ---- formulas that are false

-- the false parts of an expression of the program, whose names stand for this and are told so
unfoldable pub named_parts : Program → Naming → Scope → Formula → List Line
named_parts program naming scope formula = option_map_or (named_part_lines naming scope) (formula_at program formula) []

-- the same with the names as they are
abbrev pub parts : Program → Scope → Formula → List Line
parts program = named_parts program as_written

-- those of the gate of the action with this number, with these inputs in a store
abbrev pub gate_parts : Program → ℕ → Store → List Value → List Line
gate_parts program number store inputs =
    of_action program number [] (λ a. parts program (gate_values program.globals store a inputs) (formula.Action number Gate))

-- those of its guard, with these choices
abbrev pub guard_parts : Program → ℕ → Store → List Value → List Value → List Line
guard_parts program number store inputs chosen =
    of_action program number [] (λ a. parts program (guard_values program.globals store a inputs chosen) (formula.Action number Guard))

-- ---- gates and asserts

-- `, name = value`
abbrev pub given_value : Name → Value → List ℕ
given_value name value = codes ", " ++ equation name value

-- the name of an action and the values of its parameters
abbrev pub called_text : List Value → Action → List ℕ
called_text inputs a = a.name.bytes ++ beside (λ p. given_value p.name) a.params inputs

abbrev pub gate_text : Program → ℕ → List Value → List ℕ
gate_text program number inputs = codes "its gate is false: " ++ of_action program number [] (called_text inputs)

abbrev pub gate_lines : Told → ℕ → List Value → List Line
gate_lines t number inputs =
    lost_at t t.path.walked.at (gate_text t.program number inputs) ∷ gate_parts t.program number t.path.walked.end.store inputs

abbrev pub assert_lines : Told → List Line
assert_lines t =
    lost_at t t.path.walked.at (codes "this is false")
    ∷ parts t.program (frame_values t.program.globals t.proc t.path.walked.end.locals)
    (formula.Statement t.number t.path.walked.at part.Condition)

-- ---- what a cut says

-- the statement of the cut with this number
abbrev pub cut_statement : Proc → ℕ → ℕ
cut_statement proc number = option_map_or (λ cut. cut.statement) (slice_get (proc_cuts proc) number) 0

-- what this statement says is false where the path ends, at the cut with this number
abbrev pub said_lines : Told → ℕ → ℕ → List Line
said_lines t end statement =
    lost_at t statement (codes "what it says is false")
    ∷ parts t.program (end_values t.program t.proc t.path.begun end (progress t.path.walked.end))
    (formula.Statement t.number statement part.Invariant)

abbrev pub note_lines : Told → ℕ → List Line
note_lines t end = said_lines t end (cut_statement t.proc end)

-- ---- blocks and the refined action

-- what a block changes: globals, and outputs
abbrev pub block_text : Told → List Changed → List Changed → List ℕ
block_text t gs os =
    codes "a block without a commit changes "
    ++ listed (change_texts (global_names t.program.globals) gs ++ change_texts (param_names t.proc.outs) os)

-- the number of the action that the procedure refines
abbrev pub refined_number : Told → ℕ
refined_number t = option_map_or (λ r. place_of (map (λ a. a.name) t.program.actions) r.action) t.proc.refines 0

-- it waits with these values for its choices
abbrev pub waiting_text : List Value → Action → List ℕ
waiting_text chosen a =
    a.name.bytes ++ (codes " waits: its guard is false where the block begins" ++ beside (λ c. given_value c.name) a.choices chosen)

abbrev pub waits_text : Told → List Value → List ℕ
waits_text t chosen = of_action t.program (refined_number t) [] (waiting_text chosen)

abbrev pub waits_lines : Told → List Value → List Line
waits_lines t chosen =
    lost_at_end t (waits_text t chosen)
    ∷ guard_parts t.program (refined_number t) t.path.begun.old (inputs_of t.proc t.path.begun.locals) chosen

-- `, name = given where the block has value`, where the place is among those of these names
abbrev pub gift_text : List Name → Changed → List ℕ
gift_text names c = codes ", " ++ (equation (name_at names c.place) c.before ++ (codes " where the block has " ++ value_text c.after))

abbrev pub given_text : List Name → List Changed → List ℕ
given_text names changes = flat_map (gift_text names) changes

-- it gives other values than the block: to globals, and to outputs
abbrev pub giving_text : Told → List Changed → List Changed → Action → List ℕ
giving_text t gs os a =
    a.name.bytes ++ (codes " gives other values"
    ++ (given_text (global_names t.program.globals) gs ++ given_text (param_names t.proc.outs) os))

abbrev pub gives_text : Told → List Changed → List Changed → List ℕ
gives_text t gs os = of_action t.program (refined_number t) [] (giving_text t gs os)

abbrev pub rank_text : Value → Value → List ℕ
rank_text before after = codes "the rank was " ++ (value_text before ++ (codes " and is " ++ value_text after))

-- ---- the target of K10

-- the place among all invariants of the one with this place among those of the step
abbrev pub place_among : ℕ → ℕ → List Invariant → ℕ
place_among step place [] = 0
place_among step place (first ∷ others) =
    if nat_eq first.step step
    then (if nat_eq place 0 then 0 else place_among step (place - 1) others + 1)
    else place_among step place others + 1

abbrev pub target_text : Target → List ℕ
target_text (target.Invariant place) = codes "an invariant is lost here"
target_text (target.Yield number cut) = codes "what another thread's yield says is lost here"

-- the false parts of what a cut of another procedure says in a store, of the frame whose values stand from a place on
abbrev pub other_parts : Program → ℕ → List Value → ℕ → Store → Proc → Cut → List Line
other_parts program number values at store proc cut =
    let other = other_of proc values at in
    named_parts program (of_other program.globals) (steady_note_values program.globals proc store other.locals other.done)
    (formula.Statement number cut.statement part.Invariant)

-- the false parts of a target in a store: of the invariant of the step, or of what another thread's yield says
abbrev pub target_parts : Program → ℕ → Target → List Value → ℕ → Store → List Line
target_parts program step (target.Invariant place) values at store =
    parts program (global_values program.globals store) (formula.Invariant (place_among step place program.invariants))
target_parts program step (target.Yield number cut) values at store =
    of_cut program number cut [] (other_parts program number values at store)

-- the values of the other frame stand behind those of the path
abbrev pub target_lines : Told → List Value → Target → List Line
target_lines t values target =
    lost_at_end t (target_text target)
    ∷ target_parts t.program t.step target values (layout t.program t.step t.proc t.cut).behind t.path.walked.end.store

-- ---- the whole

-- what is lost; a target is lost of a condition that has one
abbrev pub loss_lines : Told → Option Target → List Value → Loss → List Line
loss_lines t target values (loss.FalseGate number inputs) = gate_lines t number inputs
loss_lines t target values loss.FalseAssert = assert_lines t
loss_lines t target values (loss.FalseNote end) = note_lines t end
loss_lines t target values (loss.CommitAgain statement) = lost_at t statement (codes "a second commit") ∷ []
loss_lines t target values loss.NoCommit = lost_at_exit t (codes "the exit, without a commit") ∷ []
loss_lines t target values (loss.Changes gs os) = lost_at_end t (block_text t gs os) ∷ []
loss_lines t target values (loss.ActionWaits chosen) = waits_lines t chosen
loss_lines t target values (loss.ActionGives gs os) = lost_at_end t (gives_text t gs os) ∷ []
loss_lines t target values (loss.RankStays before after) = lost_at t t.cut.statement (rank_text before after) ∷ []
loss_lines t target values loss.TargetLost = option_map_or (target_lines t values) target []

-- what the path passes, as far as it is told, and what is lost
abbrev pub course_lines : Told → Option Target → List Value → Loss → List Line
course_lines t target values lost = passage_lines t (told_passages lost t.path.walked.passed) ++ loss_lines t target values lost

-- where the path begins, what is around it, what it passes, and what is lost
abbrev pub told_lines : Told → Option Target → List Value → Loss → List Line
told_lines t target values lost = begin_line t ∷ around_lines t ++ course_lines t target values lost

-- from a cut of a procedure at a step
abbrev pub story_lines : Program → ℕ → ℕ → Option Target → List Value → Loss → Proc → Cut → List Line
story_lines program step number target values lost proc cut =
    told_lines (record {
      program = program;
      step = step;
      number = number;
      proc = proc;
      cut = cut;
      path = story_from program step values proc cut;
    }) target values lost

-- of a condition with these values, one for each variable in their order, by which this is lost; none of a condition on actions
unfoldable pub path_story : Program → Condition → List Value → Loss → List Line
path_story program (condition.Path part step q c) values lost = of_cut program q c [] (story_lines program step q None values lost)
path_story program (condition.Block step q c target) values lost =
    of_cut program q c [] (story_lines program step q (Some target) values lost)
path_story program _ values lost = []
