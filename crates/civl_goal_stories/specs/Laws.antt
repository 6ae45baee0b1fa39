-- What the definitions say together.
use Rattle.std.specs.Prelude.{◌≡◌, ℕ, List, IfSome, slice_get}
use Rattle.std.specs.Option.{option_map}
use Rattle.civl_tree.specs.Token.{Token}
use Rattle.civl_tree.specs.Spelling.{spell_expr}
use Rattle.civl_tree.specs.SpellingProgram.{spell_program}
use Rattle.civl_outlines.specs.declared.outline.Outline.{Outline}
use Rattle.civl_outlines.specs.SpellingOutline.{spell_hold, spell_note, spell_outline}
use Rattle.civl_goals.specs.Outlines.{written_before}
use Rattle.civl_reasons.specs.Stands.{StandAt}
use Rattle.civl_goal_stories.specs.Places.{hold_at, hold_start, note_at, note_before, note_start}

-- What stands at a token of a program stands at the same token of its outlines.
abbrev pub ProgramsStand : Type 0
ProgramsStand =
    (outline : Outline) (part : List Token) (token : ℕ)
    → StandAt part (spell_program outline.program) token → StandAt part (spell_outline outline) token

-- At the token of a hold its spelling begins, and at that of what it says the spelling of this.
abbrev pub HoldsStand : Type 0
HoldsStand =
    (outline : Outline) (number : ℕ)
    → IfSome (slice_get outline.holds number) (λ hold. StandAt (spell_hold hold) (spell_outline outline) (hold_start outline number))
    × IfSome (hold_at outline number) (λ part. StandAt (spell_expr part.expr) (spell_outline outline) part.token)

-- So it is of a note.
abbrev pub NotesStand : Type 0
NotesStand =
    (outline : Outline) (number : ℕ)
    → IfSome (slice_get outline.notes number) (λ note. StandAt (spell_note note) (spell_outline outline) (note_start outline number))
    × IfSome (note_at outline number) (λ part. StandAt (spell_expr part.expr) (spell_outline outline) part.token)

-- What the note says that is told before a statement is what the note says that is written there.
abbrev pub NotesAreWritten : Type 0
NotesAreWritten =
    (outline : Outline) (r s : ℕ)
    → option_map (λ part. part.expr) (note_before outline r s) ≡ option_map (λ note. note.expr) (written_before outline.program outline r s)
