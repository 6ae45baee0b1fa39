-- Where the entries and the moves of a script stand, each with the token at which it begins, counted from 0, and what is told of the first
-- one that doesn't fit. The program stands before them, and the word `schedule`.
use Rattle.std.specs.Prelude.{ℕ, ◌-◌, nat_lt, if◌then◌else◌, List, [], ◌∷◌, ◌++◌, length, map, take, slice_get, codes}
use Rattle.std.specs.Option.{option_map_or}
use Rattle.civl_tree.specs.declared.expr.Sort.{Sort}
use Rattle.civl_tree.specs.declared.program.Global.{Global}
use Rattle.civl_tree.specs.declared.script.Literal.{Literal}
use Rattle.civl_tree.specs.declared.script.Script.{Script}
use Rattle.civl_tree.specs.Token.{Token, Reserved, Sign}
use Rattle.civl_tree.specs.Spelling.{joined, separated}
use Rattle.civl_tree.specs.SpellingProgram.{spell_program}
use Rattle.civl_tree.specs.SpellingScript.{spell_entry, spell_literal, spell_step}
use Rattle.civl_lex.specs.declared.token.Token.{Token as Placed}
use Rattle.civl_lines.specs.declared.render.Form.{Form}
use Rattle.civl_lines.specs.Rendered.{offset_of}
use Rattle.civl_subjects.specs.Texts.{sort_text}
use Rattle.civl_refusals.specs.Refusals.{fault_told}

-- a row: `[ list(literal) ]`
abbrev pub spell_row : List Literal → List Token
spell_row cells = Sign (codes "[") ∷ separated spell_literal cells ++ Sign (codes "]") ∷ []

-- the tokens before the entries
abbrev pub before_entries : Script → List Token
before_entries script = spell_program script.program ++ Reserved (codes "schedule") ∷ []

-- the token at which the entry with this number begins: behind these and the entries before it
abbrev pub entry_start : Script → ℕ → ℕ
entry_start script number = length (before_entries script ++ joined (map spell_entry (take number script.store)))

-- the tokens before the moves
abbrev pub before_steps : Script → List Token
before_steps script = before_entries script ++ joined (map spell_entry script.store)

-- the token at which the move with this number begins; behind all moves, the end of the script
abbrev pub step_start : Script → ℕ → ℕ
step_start script number = length (before_steps script ++ joined (map spell_step (take number script.moves)))

-- the token of what has this number, the moves being numbered behind the entries: where entries are missing, that of the first move,
-- or the end of the script
abbrev pub part_start : Script → ℕ → ℕ
part_start script number =
    if nat_lt number (length script.store) then entry_start script number else step_start script (number - length script.store)

-- ---- what doesn't fit

-- ` is due here, a word(8)`
abbrev pub sort_due : Sort → List ℕ
sort_due sort = codes " is due here, a " ++ sort_text sort

-- `x is due here, a word(8)`
abbrev pub wanted_text : Global → List ℕ
wanted_text global = global.name.bytes ++ sort_due global.sort

-- `the value of x is due here, a word(8)`
abbrev pub due_text : Global → List ℕ
due_text global = codes "the value of " ++ wanted_text global

-- of an entry behind those of all globals, and of a move
abbrev pub beyond_text : Script → ℕ → List ℕ
beyond_text script number =
    if nat_lt number (length script.store) then codes "all globals have their values before this" else codes "a choice here is no value"

-- what is wrong with what has this number, where all before it fits: while globals are left, it isn't the entry of the next one
abbrev pub misfit_text : Script → ℕ → List ℕ
misfit_text script number = option_map_or due_text (slice_get script.program.globals number) (beyond_text script number)

-- at its token
abbrev pub misfit_told : Form → List ℕ → List Placed → Script → ℕ → List ℕ
misfit_told form bytes tokens script number =
    fault_told form bytes (offset_of bytes tokens (part_start script number)) (misfit_text script number)
