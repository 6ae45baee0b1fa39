-- The program, the holds and the notes in the spelling of an outline.
use Rattle.std.proofs.Common.{◌≡◌, ℕ, suc, ◌+◌, ◌<◌, ◌≤◌, ◌⊎◌, inl, inr, Bool, List, [], ◌∷◌, ◌++◌, map, length, take}
use Rattle.std.proofs.Common.{drop, Option, None, Some, append-nil, append_assoc, refl, sym, ap, ◌∙◌}
use Rattle.std.specs.Prelude.{codes, if◌then◌else◌, slice_get, option_and_then, IfSome}
use Rattle.std.specs.List.{find, position_or_len}
use Rattle.std.specs.Option.{option_map}
use Rattle.std.proofs.lemmas.Bool.{cases_lt, lt-ltb, le-ltb}
use Rattle.std.proofs.lemmas.List.Folds.{find_at}
use Rattle.std.proofs.lemmas.Option.{slice_get_past}
use Rattle.civl_tree.specs.declared.expr.Expr.{Expr}
use Rattle.civl_tree.specs.Token.{Token, Reserved, Number}
use Rattle.civl_tree.specs.Spelling.{joined, semicolon, spell_expr}
use Rattle.civl_tree.specs.SpellingProgram.{spell_program}
use Rattle.civl_outlines.specs.declared.outline.Note.{Note}
use Rattle.civl_outlines.specs.declared.outline.Outline.{Outline}
use Rattle.civl_outlines.specs.SpellingOutline.{spell_hold, spell_note, spell_outline}
use Rattle.civl_goals.specs.Outlines.{stands_before}
use Rattle.civl_reasons.specs.Reasons.{Subformula}
use Rattle.civl_reasons.specs.Stands.{StandAt}
use Rattle.civl_places.specs.Formulas.{placed}
use Rattle.civl_places.proofs.Expressions.{Stands, cut, if_map, within}
use Rattle.civl_places.proofs.Standing.{joined_split}
use Rattle.civl_goal_stories.specs.Places.{before_holds, before_notes, hold_start, note_at, note_before, note_start}
use Rattle.civl_goal_stories.specs.Laws.{HoldsStand, NotesAreWritten, NotesStand, ProgramsStand}

-- ---- phrases

regrouped : (before first part rest after : List Token)
    → before ++ ((first ++ (part ++ rest)) ++ after) ≡ (before ++ first) ++ (part ++ (rest ++ after))
regrouped before first part rest after = simp append_assoc

-- a phrase among others, which stand between these tokens
pub phrase_stands : {X : Type 0} (spell : X → List Token) (before after all : List Token) (xs : List X) (n : ℕ) (x : X)
    → all ≡ before ++ (joined (map spell xs) ++ after) → slice_get xs n ≡ Some x
    → StandAt (spell x) all (length (before ++ joined (map spell (take n xs))))
phrase_stands spell before after all xs n x whole found = record {
  before = before ++ joined (map spell (take n xs));
  after = joined (map spell (drop (suc n) xs)) ++ after;
  parts = whole ∙ ap (λ (l : List Token). before ++ (l ++ after)) (joined_split spell xs n x found)
      ∙ regrouped before (joined (map spell (take n xs))) (spell x) (joined (map spell (drop (suc n) xs))) after;
  place_is = refl;
}

pub if_there : {A : Type 0} (P : A → Type 0) (o : Option A) → ((x : A) → o ≡ Some x → P x) → IfSome o P
if_there P None h = tt
if_there P (Some x) h = h x refl

-- ---- the program

pub programs_stand : ProgramsStand
programs_stand o part token s =
    let rest = Reserved (codes "schedule") ∷ joined (map spell_hold o.holds) ++ joined (map spell_note o.notes) in record {
      before = s.before;
      after = s.after ++ rest;
      parts = ap (λ (l : List Token). l ++ rest) s.parts ∙ append_assoc s.before (part ++ s.after) rest
          ∙ ap (λ (l : List Token). s.before ++ l) (append_assoc part s.after rest);
      place_is = s.place_is;
    }

-- ---- holds

pub with_holds : (o : Outline) → spell_outline o ≡ before_holds o ++ (joined (map spell_hold o.holds) ++ joined (map spell_note o.notes))
with_holds o =
    sym (append_assoc (spell_program o.program) (Reserved (codes "schedule") ∷ [])
    (joined (map spell_hold o.holds) ++ joined (map spell_note o.notes)))

pub hold_stands : (o : Outline) (n : ℕ) (hold : Expr) → slice_get o.holds n ≡ Some hold
    → StandAt (spell_hold hold) (spell_outline o) (hold_start o n)
hold_stands o n hold found =
    phrase_stands spell_hold (before_holds o) (joined (map spell_note o.notes)) (spell_outline o) o.holds n hold (with_holds o) found

pub holds_stand : HoldsStand
holds_stand o n = (
  if_there _ (slice_get o.holds n) (hold_stands o n),
  if_map (Stands (spell_outline o)) _ (slice_get o.holds n) (λ hold found.
      within (spell_hold hold) (spell_expr hold) (spell_outline o) (hold_start o n) 1 _ (hold_stands o n hold found)
      (cut (Reserved (codes "inv") ∷ []) (spell_expr hold) (semicolon ∷ []) _ refl) refl),
)

-- ---- notes

pub with_notes : (o : Outline) → spell_outline o ≡ before_notes o ++ (joined (map spell_note o.notes) ++ [])
with_notes o =
    with_holds o ∙ sym (append_assoc (before_holds o) (joined (map spell_hold o.holds)) (joined (map spell_note o.notes)))
    ∙ ap (λ (l : List Token). before_notes o ++ l) (sym (append-nil (joined (map spell_note o.notes))))

pub note_stands : (o : Outline) (n : ℕ) (note : Note) → slice_get o.notes n ≡ Some note
    → StandAt (spell_note note) (spell_outline o) (note_start o n)
note_stands o n note found = phrase_stands spell_note (before_notes o) [] (spell_outline o) o.notes n note (with_notes o) found

pub notes_stand : NotesStand
notes_stand o n = (
  if_there _ (slice_get o.notes n) (note_stands o n),
  if_map (Stands (spell_outline o)) _ (slice_get o.notes n) (λ note found.
      within (spell_note note) (spell_expr note.expr) (spell_outline o) (note_start o n) 3 _ (note_stands o n note found)
      (cut (Reserved (codes "assert") ∷ Number note.item ∷ Number note.statement ∷ []) (spell_expr note.expr) (semicolon ∷ []) _ refl) refl),
)

-- ---- the note that is written before a statement

abbrev what_part_says : Option Subformula → Option Expr
what_part_says o = option_map (λ (part : Subformula). part.expr) o

abbrev what_note_says : Option Note → Option Expr
what_note_says o = option_map (λ (note : Note). note.expr) o

told_at : (o : Outline) (n : ℕ) → what_part_says (note_at o n) ≡ what_note_says (slice_get o.notes n)
told_at o n = by (slice_get o.notes n)
  where
    by : (found : Option Note)
        → what_part_says (option_map (λ (note : Note). placed (note_start o n + 3) note.expr) found) ≡ what_note_says found
    by None = refl
    by (Some note) = refl

module _ (o : Outline) (r s : ℕ) where
  abbrev is_there : Note → Bool
  is_there = stands_before o.program r s

  abbrev place : ℕ
  place = position_or_len is_there o.notes

  abbrev told : Bool → Option Expr
  told b = what_part_says (option_and_then (note_at o) (if b then Some place else None))

  pub written : what_part_says (note_before o r s) ≡ what_note_says (find is_there o.notes)
  written = either (cases_lt place (length o.notes))
    where
      either : (place < length o.notes) ⊎ (length o.notes ≤ place)
          → what_part_says (note_before o r s) ≡ what_note_says (find is_there o.notes)
      either (inl less) =
          ap told (lt-ltb place (length o.notes) less) ∙ told_at o place ∙ sym (ap what_note_says (find_at is_there o.notes))
      either (inr past) =
          ap told (le-ltb place (length o.notes) past)
          ∙ sym (ap what_note_says (find_at is_there o.notes ∙ slice_get_past o.notes place past))

pub notes_are_written : NotesAreWritten
notes_are_written o r s = written o r s
