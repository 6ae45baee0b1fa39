-- Where the holds and notes of an outline stand: each with the token at which it begins, counted from 0. The program stands before them,
-- so its items, statements and expressions have the tokens there that they have in its own text.
use Rattle.std.specs.Prelude.{ℕ, ◌+◌, List, [], ◌∷◌, ◌++◌, length, map, take, codes, Option, slice_get}
use Rattle.std.specs.List.{position}
use Rattle.std.specs.Option.{option_map, option_and_then}
use Rattle.civl_tree.specs.Token.{Token, Reserved}
use Rattle.civl_tree.specs.Spelling.{joined}
use Rattle.civl_tree.specs.SpellingProgram.{spell_program}
use Rattle.civl_outlines.specs.declared.outline.Outline.{Outline}
use Rattle.civl_outlines.specs.SpellingOutline.{spell_hold, spell_note}
use Rattle.civl_goals.specs.Outlines.{stands_before}
use Rattle.civl_reasons.specs.Reasons.{Subformula}
use Rattle.civl_places.specs.Formulas.{placed}

-- ---- holds

-- the tokens before the holds
abbrev pub before_holds : Outline → List Token
before_holds outline = spell_program outline.program ++ Reserved (codes "schedule") ∷ []

-- the token at which the hold with this number begins: behind these and the holds before it
abbrev pub hold_start : Outline → ℕ → ℕ
hold_start outline number = length (before_holds outline ++ joined (map spell_hold (take number outline.holds)))

-- what it says, behind `inv`
abbrev pub hold_at : Outline → ℕ → Option Subformula
hold_at outline number = option_map (placed (hold_start outline number + 1)) (slice_get outline.holds number)

-- ---- notes

-- the tokens before the notes
abbrev pub before_notes : Outline → List Token
before_notes outline = before_holds outline ++ joined (map spell_hold outline.holds)

-- the token at which the note with this number begins
abbrev pub note_start : Outline → ℕ → ℕ
note_start outline number = length (before_notes outline ++ joined (map spell_note (take number outline.notes)))

-- what it says, behind `assert` and two numbers
abbrev pub note_at : Outline → ℕ → Option Subformula
note_at outline number = option_map (λ note. placed (note_start outline number + 3) note.expr) (slice_get outline.notes number)

-- the number of the note that is written before this statement of the procedure with this number
abbrev pub note_number : Outline → ℕ → ℕ → Option ℕ
note_number outline r s = position (stands_before outline.program r s) outline.notes

-- what this note says
abbrev pub note_before : Outline → ℕ → ℕ → Option Subformula
note_before outline r s = option_and_then (note_at outline) (note_number outline r s)
