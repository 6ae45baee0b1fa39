-- Holds and notes end within the spelling of their outline.
use Rattle.std.proofs.Common.{◌≡◌, ℕ, zero, suc, ◌+◌, ◌<◌, ◌≤◌, List, [], ◌∷◌, ◌++◌, map, length, take, Option, None, Some, get_or}
use Rattle.std.proofs.Common.{length-append, refl, sym, ap, ◌∙◌, subst, arith}
use Rattle.std.specs.Prelude.{slice_get, option_and_then, IfSome}
use Rattle.std.proofs.lemmas.List.Quantifiers.{position-Some}
use Rattle.std.proofs.lemmas.Option.{slice_get_read}
use Rattle.civl_tree.specs.declared.expr.Expr.{Expr}
use Rattle.civl_tree.specs.Token.{Token}
use Rattle.civl_tree.specs.Spelling.{joined, spell_expr}
use Rattle.civl_outlines.specs.declared.outline.Note.{Note}
use Rattle.civl_outlines.specs.declared.outline.Outline.{Outline}
use Rattle.civl_outlines.specs.SpellingOutline.{spell_hold, spell_note, spell_outline}
use Rattle.civl_goals.specs.Outlines.{stands_before}
use Rattle.civl_reasons.specs.Reasons.{Subformula}
use Rattle.civl_reasons.specs.Stands.{StandAt}
use Rattle.civl_places.proofs.Listing.{first_fit}
use Rattle.civl_goal_stories.specs.Places.{before_holds, before_notes, hold_start, note_at, note_before, note_number, note_start}
use Rattle.civl_goal_stories.proofs.Standing.{hold_stands, note_stands, notes_stand, with_holds, with_notes}

stands_fit : (part all : List Token) (n : ℕ) → StandAt part all n → n + length part ≤ length all
stands_fit part all n s = omega (arith, ap length s.parts, length-append s.before (part ++ s.after), length-append part s.after, s.place_is)

-- ---- phrases one behind the other

taken : {X : Type 0} (spell : X → List Token) (xs : List X) (n : ℕ) (x : X) → slice_get xs n ≡ Some x
    → length (joined (map spell (take (suc n) xs))) ≡ length (joined (map spell (take n xs))) + length (spell x)
taken spell [] n x h = absurd (let none = h in cc)
taken spell (y ∷ ys) zero x h =
    let same : y ≡ x = cc in
    omega (arith, ap (λ z. length (spell z)) same, length-append (spell y) [])
taken spell (y ∷ ys) (suc n) x h =
    omega (
      arith,
      taken spell ys n x h,
      length-append (spell y) (joined (map spell (take (suc n) ys))),
      length-append (spell y) (joined (map spell (take n ys))),
    )

-- ---- holds

-- the one of a list that is lent
pub hold_there : (o : Outline) (shown : List Expr) (n : ℕ) (hold : Expr) → shown ≡ o.holds → n < length shown → hold ≡ get_or shown n hold
    → slice_get o.holds n ≡ Some hold
hold_there o shown n hold same below is =
    ap (λ (hs : List Expr). slice_get hs n) (sym same) ∙ slice_get_read shown (length shown) n hold refl below is

module _ (o : Outline) (n : ℕ) (hold : Expr) (found : slice_get o.holds n ≡ Some hold) where
  pub hold_fits : hold_start o n + length (spell_hold hold) ≤ length (spell_outline o)
  hold_fits = stands_fit (spell_hold hold) (spell_outline o) (hold_start o n) (hold_stands o n hold found)

  pub next_hold : hold_start o (n + 1) ≡ hold_start o n + length (spell_hold hold)
  next_hold =
      let one : n + 1 ≡ suc n = omega arith in
      let next : take (n + 1) o.holds ≡ take (suc n) o.holds = ap (λ (k : ℕ). take k o.holds) one in
      omega (
        arith,
        taken spell_hold o.holds n hold found,
        ap (λ (hs : List Expr). length (joined (map spell_hold hs))) next,
        length-append (before_holds o) (joined (map spell_hold (take (n + 1) o.holds))),
        length-append (before_holds o) (joined (map spell_hold (take n o.holds))),
      )

-- the first ones, and all
pub holds_fit : (o : Outline) (n : ℕ)
    → hold_start o 0 + length (joined (map spell_hold (take n o.holds))) ≤ length (spell_outline o)
holds_fit o n =
    omega (
      arith,
      first_fit spell_hold o.holds n,
      ap length (with_holds o),
      length-append (before_holds o) [],
      length-append (before_holds o) (joined (map spell_hold o.holds) ++ joined (map spell_note o.notes)),
      length-append (joined (map spell_hold o.holds)) (joined (map spell_note o.notes)),
    )

pub hold_behind : (o : Outline) (n : ℕ) → hold_start o 0 + length (joined (map spell_hold (take n o.holds))) ≡ hold_start o n
hold_behind o n =
    omega (arith, length-append (before_holds o) [], length-append (before_holds o) (joined (map spell_hold (take n o.holds))))

-- ---- notes

pub note_fits : (o : Outline) (n : ℕ) (note : Note) → slice_get o.notes n ≡ Some note
    → note_start o n + length (spell_note note) ≤ length (spell_outline o)
note_fits o n note found = stands_fit (spell_note note) (spell_outline o) (note_start o n) (note_stands o n note found)

pub notes_fit : (o : Outline) (n : ℕ)
    → note_start o 0 + length (joined (map spell_note (take n o.notes))) ≤ length (spell_outline o)
notes_fit o n =
    omega (
      arith,
      first_fit spell_note o.notes n,
      ap length (with_notes o),
      length-append (before_notes o) [],
      length-append (before_notes o) (joined (map spell_note o.notes) ++ []),
      length-append (joined (map spell_note o.notes)) [],
    )

pub note_behind : (o : Outline) (n : ℕ) → note_start o 0 + length (joined (map spell_note (take n o.notes))) ≡ note_start o n
note_behind o n =
    omega (arith, length-append (before_notes o) [], length-append (before_notes o) (joined (map spell_note (take n o.notes))))

-- ---- the note that is written before a statement

pub noted_there : (o : Outline) (r s n : ℕ) (note : Note) → note_number o r s ≡ Some n → n < length o.notes
noted_there o r s n note found = (position-Some (stands_before o.program r s) o.notes n note found).0

pub noted_fits : (o : Outline) (r s : ℕ) (part : Subformula) → note_before o r s ≡ Some part
    → part.token + length (spell_expr part.expr) ≤ length (spell_outline o)
noted_fits o r s part found = by (note_number o r s) found
  where
    by : (number : Option ℕ) → option_and_then (note_at o) number ≡ Some part
        → part.token + length (spell_expr part.expr) ≤ length (spell_outline o)
    by None e = absurd (let none = e in cc)
    by (Some n) e =
        stands_fit (spell_expr part.expr) (spell_outline o) part.token
        (subst (λ (p : Option Subformula). IfSome p (λ q. StandAt (spell_expr q.expr) (spell_outline o) q.token)) e (notes_stand o n).1)
