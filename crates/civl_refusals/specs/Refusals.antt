-- Where a text is refused, and why: the place, the line itself with a caret under it, and what is wrong there. (As compilers show a
-- diagnostic: GNU Coding Standards, "Formatting Error Messages"; the caret as Clang's "Expressive Diagnostics".)
use Rattle.std.specs.Prelude.{ℕ, ◌-◌, nat_eq, nat_lt, if◌then◌else◌, List, [], ◌∷◌, ◌++◌, length, map, take, codes}
use Rattle.std.specs.Prelude.{Option, None, Some, option_and_then}
use Rattle.std.specs.Option.{option_map_or}
use Rattle.std.specs.List.{flat_map}
use Rattle.civl_tree.specs.declared.program.Program.{Program}
use Rattle.civl_tree.specs.declared.refusal.Refusal.{Refusal}
use Rattle.civl_tree.specs.Numbering.{item_count}
use Rattle.civl_lex.specs.declared.token.Token.{Token as Placed}
use Rattle.civl_places.specs.Lines.{line_at, column_of}
use Rattle.civl_places.specs.Starts.{item_start, statement_start}
use Rattle.civl_subjects.specs.Told.{subject, told_text}
use Rattle.civl_expected.specs.declared.candidate.Candidate.{Candidate}
use Rattle.civl_expected.specs.declared.candidate.Candidate.TheVariants.{Sign, Word, Name, Number}
use Rattle.civl_expected.specs.declared.expected.Expected.{Expected}
use Rattle.civl_verdicts.specs.reports.Lines.{line}
use Rattle.civl_lines.specs.declared.line.Kind.TheVariants.{Info}
use Rattle.civl_lines.specs.declared.line.Shown.TheVariants.{Tokens}
use Rattle.civl_lines.specs.declared.line.Line.{Line}
use Rattle.civl_lines.specs.declared.render.Form.{Form}
use Rattle.civl_lines.specs.declared.render.Form.TheVariants.{Story, Findings}
use Rattle.civl_lines.specs.Rendered.{position_of, offset_of, place_text, lines_text, without_return}
use Rattle.civl_refusals.specs.declared.spot.Spot.{Spot}

-- ---- a place and what is wrong there

-- under a byte of a line: a tab under a tab, and a blank under any other byte
abbrev pub margin_byte : ℕ → ℕ
margin_byte byte = if nat_eq byte 9 then 9 else 32

-- under the bytes of a line before a column
abbrev pub margin_text : List ℕ → ℕ → List ℕ
margin_text line column = map margin_byte (take (column - 1) line)

-- the line of an offset, and under it a caret at its column
abbrev pub caret_text : List ℕ → ℕ → List ℕ
caret_text bytes offset =
    line (codes "    " ++ without_return (line_at bytes offset))
    ++ line (codes "    " ++ (margin_text (line_at bytes offset) (column_of bytes offset) ++ codes "^"))

-- `line:column  what is wrong`, and the caret; or the place and what is wrong in one line
abbrev pub fault_told : Form → List ℕ → ℕ → List ℕ → List ℕ
fault_told Story bytes offset text =
    line (codes "  " ++ (place_text (position_of bytes offset) ++ (codes "  " ++ text))) ++ caret_text bytes offset
fault_told Findings bytes offset text = line (place_text (position_of bytes offset) ++ (codes ": error: " ++ text))

-- ---- places in a program

-- the token of an item, if there is one
abbrev pub item_at : Program → ℕ → ℕ
item_at program item = if nat_lt item (item_count program) then item_start program item else 0

-- an item as a line of a story
abbrev pub item_line : Program → ℕ → Line
item_line program item = record { token = item_at program item; shown = Tokens 2; kind = Info; text = [] }

-- an item, and nothing in it
abbrev pub at_item : ℕ → Spot
at_item item = record { item = item; inside = None }

-- the item of `init`
abbrev pub init_spot : Program → Spot
init_spot program = at_item (length program.globals)

-- the item, and the place in it with what is wrong there; or the item alone with this
abbrev pub spot_told : Form → List ℕ → List Placed → Program → Spot → List ℕ → List ℕ
spot_told form bytes tokens program spot text =
    option_map_or (λ at.
    lines_text form bytes tokens (item_line program spot.item ∷ []) ++ fault_told form bytes (offset_of bytes tokens at) text)
    spot.inside (fault_told form bytes (offset_of bytes tokens (item_at program spot.item)) text)

-- ---- a token that can't stand where it does

-- a sign or a word in backquotes; a name and a number as a grammar writes them
abbrev pub candidate_text : Candidate → List ℕ
candidate_text (Sign text) = codes " `" ++ (text.now ++ codes "`")
candidate_text (Word text) = codes " `" ++ (text.now ++ codes "`")
candidate_text Name = codes " NAME"
candidate_text Number = codes " NUMBER"

abbrev pub candidates_text : List Candidate → List ℕ
candidates_text candidates = flat_map candidate_text candidates

-- all that may stand there, and the end of the text, where it may
abbrev pub expected_text : Expected → List ℕ
expected_text expected =
    codes "expected" ++ (candidates_text expected.candidates ++ (if expected.end then codes " the end" else []))

-- ---- static rules

-- what the rules on names and counts forbid, by their codes
abbrev pub names_rule : ℕ → List ℕ
names_rule code =
    if nat_eq code 10 then codes "a name is declared or named twice"
    else if nat_eq code 11 then codes "a name isn't in scope as what is needed here"
    else codes "a count or a number of the header is out of its range"

-- those on sorts
abbrev pub sorts_rule : ℕ → List ℕ
sorts_rule code =
    if nat_eq code 20 then codes "a width, a literal or a range of bits doesn't fit"
    else if nat_eq code 21 then codes "an expression hasn't the sort that its place needs"
    else if nat_eq code 22 then codes "a row's index isn't 1 to 6 bits wide"
    else if nat_eq code 23 then codes "there are too few or too many arguments, results or updates"
    else codes "the globals up to here have more than 4096 bits"

-- those on layers
abbrev pub layers_rule : ℕ → List ℕ
layers_rule code =
    if nat_eq code 30 then codes "a range of layers, a layer or a step is out of place"
    else if nat_eq code 31 then codes "a global is used where it doesn't exist"
    else if nat_eq code 32 then codes "a call goes to the procedure's own layer, to one above, or to a root"
    else if nat_eq code 33 then codes "an action doesn't exist where it is called or refined"
    else if nat_eq code 34 then codes "the parameters or outputs differ from those of the refined action"
    else codes "the target of an intro or a linear global doesn't exist where it has to"

-- those on linear names
abbrev pub linear_rule : ℕ → List ℕ
linear_rule code =
    if nat_eq code 40 then codes "an argument for a linear parameter isn't a linear name that is held"
    else if nat_eq code 41 then codes "one name stands for two permissions"
    else if nat_eq code 42 then codes "a linear name isn't held that has to be"
    else codes "a result or a value goes to a name that may not take it"

-- those on yields and movers
abbrev pub yields_rule : ℕ → List ℕ
yields_rule code =
    if nat_eq code 50 then codes "a right or atomic call may stand behind the block's turning point"
    else if nat_eq code 51 then codes "a yield or a loop stands in a rank loop"
    else if nat_eq code 52 then codes "this statement may not stand in this procedure"
    else codes "done or old(..) stands where it means nothing"

-- what the rule with this code forbids
abbrev pub rule_text : ℕ → List ℕ
rule_text code =
    if nat_lt code 20 then names_rule code
    else if nat_lt code 30 then sorts_rule code
    else if nat_lt code 40 then layers_rule code
    else if nat_lt code 50 then linear_rule code
    else yields_rule code

-- and behind it what the refusal is about, where that is told
abbrev pub rule_told : Program → Refusal → List ℕ
rule_told program refusal = rule_text refusal.code ++ told_text (subject program refusal)

-- a number behind so many others, if it is
abbrev pub behind : ℕ → ℕ → Option ℕ
behind count number = if nat_lt number count then None else Some (number - count)

-- the procedure that an item is, if it is one: behind the globals, `init`, the invariants and the actions
abbrev pub proc_of_item : Program → ℕ → Option ℕ
proc_of_item program item =
    option_and_then (behind (length program.actions)) (option_and_then (behind (length program.invariants))
    (option_and_then (behind 1) (behind (length program.globals) item)))

-- the token of this statement of an item, where it is a procedure
abbrev pub statement_in : Program → ℕ → ℕ → Option ℕ
statement_in program item statement = option_and_then (λ proc. statement_start program proc statement) (proc_of_item program item)

-- an item by its number, and in a procedure a statement
abbrev pub place_spot : Program → ℕ → ℕ → Spot
place_spot program item statement = record { item = item; inside = statement_in program item statement }

-- at the item and the statement that a refusal names, what the rule forbids and what that is about
abbrev pub refusal_told : Form → List ℕ → List Placed → Program → Refusal → List ℕ
refusal_told form bytes tokens program refusal =
    spot_told form bytes tokens program (place_spot program refusal.item refusal.statement) (rule_told program refusal)

-- no store is initial, which the item of `init` says
abbrev pub no_initial_told : Form → List ℕ → List Placed → Program → List ℕ
no_initial_told form bytes tokens program =
    spot_told form bytes tokens program (init_spot program) (codes "no store is initial")
