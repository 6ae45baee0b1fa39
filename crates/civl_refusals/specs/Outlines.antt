-- What is told of an outline that breaks a rule of outlines: at the hold or note, or at the item and statement (E90 and E91).
use Rattle.std.specs.Prelude.{ℕ, ◌-◌, Bool, true, false, is_none, nat_lt, if◌then◌else◌, List, length, take, codes}
use Rattle.std.specs.Prelude.{Option, option_and_then, slice_get}
use Rattle.std.specs.List.{list_any}
use Rattle.std.specs.Option.{option_map_or}
use Rattle.civl_tree.specs.declared.program.Proc.{Proc}
use Rattle.civl_tree.specs.declared.program.Program.{Program}
use Rattle.civl_tree.specs.declared.stmt.Stmt.{Stmt, out-Stmt}
use Rattle.civl_tree.specs.declared.stmt.Stmt.TheOpen.{Stmt-F, Call}
use Rattle.civl_tree.specs.Numbering.{statement_at, statements_of}
use Rattle.civl_lex.specs.declared.token.Token.{Token as Placed}
use Rattle.civl_outlines.specs.declared.outline.Note.{Note}
use Rattle.civl_outlines.specs.declared.outline.Outline.{Outline}
use Rattle.civl_goals.specs.Rules.{same_place}
use Rattle.civl_goal_stories.specs.Places.{hold_at, note_at}
use Rattle.civl_lines.specs.declared.render.Form.{Form}
use Rattle.civl_lines.specs.Rendered.{offset_of}
use Rattle.civl_refusals.specs.Refusals.{fault_told, place_spot, proc_of_item, spot_told}

-- the procedure that an item is, if it is one
abbrev pub proc_at : Program → ℕ → Option Proc
proc_at program item = option_and_then (slice_get program.procs) (proc_of_item program item)

-- ---- E90: a hold or a note

-- the token of a hold, whose formula stands behind `inv`; or of a note, whose formula stands behind `assert` and two numbers.
-- They are numbered together.
abbrev pub rule_start : Outline → ℕ → ℕ
rule_start outline number =
    option_map_or (λ part. part.token - 1) (hold_at outline number)
    (option_map_or (λ part. part.token - 3) (note_at outline (number - length outline.holds)) 0)

abbrev pub hold_text : List ℕ
hold_text = codes "a hold is a bool over the globals of the topmost program, in range, without done and old(..)"

abbrev pub says_text : List ℕ
says_text = codes "a note is a bool over the globals of the topmost program and the names of its root, in range, without done and old(..)"

-- of a note in a procedure: it has the statement, no earlier note stands there, or else what it says is wrong
abbrev pub note_in : List Note → Note → Proc → List ℕ
note_in earlier note proc =
    if nat_lt note.statement (length (statements_of proc.body))
    then (if list_any (same_place note) earlier then codes "an earlier note stands before the same statement" else says_text)
    else codes "the root has no statement with this number"

-- of a note: its item is a root, or else
abbrev pub note_text : Program → List Note → Note → List ℕ
note_text program earlier note =
    option_map_or (λ proc. if is_none proc.refines then note_in earlier note proc else codes "the item isn't a root")
    (proc_at program note.item) (codes "the item isn't a root")

-- the hold or the note with this number
abbrev pub unfit_text : Program → Outline → ℕ → List ℕ
unfit_text program outline number =
    if nat_lt number (length outline.holds) then hold_text
    else (let place = number - length outline.holds in
    option_map_or (note_text program (take place outline.notes)) (slice_get outline.notes place) says_text)

abbrev pub unfit_told : Form → List ℕ → List Placed → Outline → ℕ → List ℕ
unfit_told form bytes tokens outline number =
    fault_told form bytes (offset_of bytes tokens (rule_start outline number)) (unfit_text outline.program outline number)

-- ---- E91: what threads and roots call

abbrev pub form_calls : Stmt-F Stmt → Bool
form_calls (Call callee args results) = true
form_calls _ = false

-- a call stands there
abbrev pub is_call : Program → ℕ → ℕ → Bool
is_call program item statement =
    option_map_or (λ stmt. form_calls (out-Stmt stmt)) (option_and_then (λ proc. statement_at proc.body statement) (proc_at program item)) false

-- of a call, and of a spawn or a declared thread
abbrev pub descending_text : Program → ℕ → ℕ → List ℕ
descending_text program item statement =
    if is_call program item statement then codes "a root calls a root"
    else codes "a thread or a spawn goes to a procedure that refines an action"

abbrev pub descending_told : Form → List ℕ → List Placed → Program → ℕ → ℕ → List ℕ
descending_told form bytes tokens program item statement =
    spot_told form bytes tokens program (place_spot program item statement) (descending_text program item statement)
