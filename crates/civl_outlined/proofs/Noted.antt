-- Weights of notes, put to their places one by one.
use Rattle.std.proofs.Common.{◌≡◌, ℕ, ◌+◌, ◌-◌, ◌<◌, ◌≤◌, Bool, true, false, List, ◌∷◌, length, map, drop, get_or, refl, sym, ap, ◌∙◌, subst, arith, Option, None, Some}
use Rattle.std.specs.Prelude.{nat_eq, nat_lt, if◌then◌else◌, slice_get}
use Rattle.std.specs.Option.{option_map, option_map_or, unwrap_or}
use Rattle.std.proofs.lemmas.Bool.{le-ltb, and_parts, eqb-true}
use Rattle.std.proofs.lemmas.List.{drop_more, drop_all}
use Rattle.std.proofs.lemmas.Option.{same_Some, none-some, slice_get_past}
use Rattle.civl_tree.specs.declared.name.Name.{Name}
use Rattle.civl_tree.specs.declared.program.Proc.{Proc}
use Rattle.civl_tree.specs.declared.program.Program.{Program}
use Rattle.civl_tree.specs.Numbering.{proc_item}
use Rattle.civl_tree.specs.rules.Names.{same_name}
use Rattle.civl_tree.proofs.Lists.{get_there}
use Rattle.civl_outlines.specs.declared.outline.Note.{Note}
use Rattle.civl_outlines.specs.declared.outline.Outline.{Outline}
use Rattle.civl_firing.specs.Truth.{place_of}
use Rattle.civl_meaning.specs.Meaning.{proc_number}
use Rattle.civl_conditions.specs.Weights.{note_weight}
use Rattle.civl_goals.specs.Outlines.{stands_before, written_before}
use Rattle.civl_goals.specs.Weights.{note_before_weight, first_note_weight}
use Rattle.civl_weighing.specs.declared.weight.Weight.{Weight}
use Rattle.civl_weighing.specs.Weighing.{Weighs}
use Rattle.civl_weighing.proofs.Capping.{weighs_same}
use Rattle.civl_goals.specs.declared.spots.Spot.{Spot}
use Rattle.civl_goals.specs.Spots.{spot_of}
use Rattle.civl_outlined.specs.declared.notes.Notes.{Notes}
use Rattle.civl_outlined.specs.inner.Notes.{item_proc, weight_in, IsPut, IsMaybe, IsBefore, first_weight, AreNotes, IsNoted, IsAdded}

-- ---- items

-- the procedure with this number is its item
item_of_proc : (program : Program) (r : ℕ) (proc : Proc) → slice_get program.procs r ≡ Some proc → item_proc program (proc_item program r) ≡ Some proc
item_of_proc program r proc e =
    let at : proc_item program r - proc_item program 0 ≡ r = omega arith in
    let above : nat_lt (proc_item program r) (proc_item program 0) ≡ false = le-ltb (proc_item program r) (proc_item program 0) (omega arith) in
    (rw (above) refl) ∙ ap (slice_get program.procs) at ∙ e

-- ---- one note

abbrev place : Program → ℕ → ℕ → Spot
place program r s = record { item = proc_item program r; statement = s }

first_is : (program : Program) (r s : ℕ) (proc : Proc) (note : Note) (written : List Note) (b : Bool) → stands_before program r s note ≡ b →
    first_weight program r s proc (note ∷ written) ≡ (if b then Some (note_weight program proc note.expr) else first_weight program r s proc written)
first_is program r s proc note written true e = rw e refl
first_is program r s proc note written false e = rw e refl

-- it stands before a statement of the procedure that is its item
own_proc : (program : Program) (r s : ℕ) (proc : Proc) (note : Note) → slice_get program.procs r ≡ Some proc → stands_before program r s note ≡ true → item_proc program note.item ≡ Some proc
own_proc program r s proc note e h =
    let same : note.item ≡ proc_item program r = eqb-true note.item (proc_item program r) (and_parts (nat_eq note.item (proc_item program r)) (nat_eq note.statement s) h).0 in
    ap (item_proc program) same ∙ item_of_proc program r proc e

maybe_as : (m n : Option ℕ) (v w : Option Weight) → m ≡ n → v ≡ w → IsMaybe n w → IsMaybe m v
maybe_as m n v w e f h = subst (λ (o : Option ℕ). IsMaybe o v) (sym e) (subst (λ (o : Option Weight). IsMaybe n o) (sym f) h)

pub noted : (program : Program) (proc : Proc) (note : Note) (old new : Notes) (w : Weight) (spot : Spot) → Weighs w (note_weight program proc note.expr) → spot ≡ spot_of note → IsPut spot w old new → IsNoted program proc note old new
noted program proc note old new w spot h e p = record { weight = w; weighs = h; put = subst (λ (x : Spot). IsPut x w old new) e p }

pub added_some : (program : Program) (note : Note) (proc : Proc) (old new : Notes) → Some proc ≡ item_proc program note.item → IsNoted program proc note old new → IsAdded program note old new
added_some program note proc old new is n = record { more = λ written h. record { are = λ r s own e. by written h r s own e (stands_before program r s note) refl } }
  where
    by : (written : List Note) → AreNotes program written old → (r s : ℕ) (own : Proc) → slice_get program.procs r ≡ Some own → (b : Bool) → stands_before program r s note ≡ b → IsMaybe (first_weight program r s own (note ∷ written)) (weight_in new (place program r s))
    by written h r s own e true t =
        let same : proc ≡ own = same_Some proc own (is ∙ own_proc program r s own note e t) in
        maybe_as _ (Some (note_weight program own note.expr)) _ (Some n.weight) (first_is program r s own note written true t) (n.put (place program r s) ∙ rw t refl) (weighs_same (ap (λ (p : Proc). note_weight program p note.expr) same) n.weighs)
    by written h r s own e false t =
        maybe_as _ (first_weight program r s own written) _ (weight_in old (place program r s)) (first_is program r s own note written false t) (n.put (place program r s) ∙ rw t refl) (h.are r s own e)

pub added_none : (program : Program) (note : Note) (notes : Notes) → None ≡ item_proc program note.item → IsAdded program note notes notes
added_none program note notes is = record { more = λ written h. record { are = λ r s own e. by written h r s own e (stands_before program r s note) refl } }
  where
    by : (written : List Note) → AreNotes program written notes → (r s : ℕ) (own : Proc) → slice_get program.procs r ≡ Some own → (b : Bool) → stands_before program r s note ≡ b → IsMaybe (first_weight program r s own (note ∷ written)) (weight_in notes (place program r s))
    by written h r s own e true t = absurd (none-some own (is ∙ own_proc program r s own note e t))
    by written h r s own e false t = maybe_as _ (first_weight program r s own written) _ (weight_in notes (place program r s)) (first_is program r s own note written false t) refl (h.are r s own e)

-- ---- all notes

pub no_notes : (program : Program) (notes : Notes) (written : List Note) (at : ℕ) → ((spot : Spot) → weight_in notes spot ≡ None) → length written ≤ at → AreNotes program (drop at written) notes
no_notes program notes written at h l = record {
  are = λ r s proc e. maybe_as _ None _ None (ap (first_weight program r s proc) (drop_all at written l)) (h (place program r s)) tt;
}

pub one_more : (program : Program) (written : List Note) (left : ℕ) (note : Note) (old new : Notes) → 0 < left → left ≤ length written → note ≡ get_or written (left - 1) note → AreNotes program (drop left written) old → IsAdded program note old new →
    AreNotes program (drop (left - 1) written) new
one_more program written left note old new p l e h a =
    let back : left - 1 + 1 ≡ left = omega arith in
    let more : drop (left - 1) written ≡ note ∷ drop left written = drop_more written (left - 1) note (omega arith) ∙ ap (λ (x : Note). x ∷ drop (left - 1 + 1) written) (sym e) ∙ ap (λ (n : ℕ). note ∷ drop n written) back in
    subst (λ (ns : List Note). AreNotes program ns new) (sym more) (a.more (drop left written) h)

-- ---- a look-up

pub before_some : (notes : Notes) (spot : Spot) (w : Weight) → Some w ≡ weight_in notes spot → IsBefore notes spot w
before_some notes spot w e = record { is = λ n h. by n (subst (λ (o : Option Weight). IsMaybe n o) (sym e) h) }
  where
    by : (n : Option ℕ) → IsMaybe n (Some w) → Weighs w (unwrap_or n 1)
    by None h = absurd h
    by (Some n) h = h

pub before_none : (notes : Notes) (spot : Spot) (w : Weight) → None ≡ weight_in notes spot → Weighs w 1 → IsBefore notes spot w
before_none notes spot w e one = record { is = λ n h. by n (subst (λ (o : Option Weight). IsMaybe n o) (sym e) h) }
  where
    by : (n : Option ℕ) → IsMaybe n None → Weighs w (unwrap_or n 1)
    by None h = one
    by (Some n) h = absurd h

or_one : (program : Program) (proc : Proc) (found : Option Note) → unwrap_or (option_map (λ note. note_weight program proc note.expr) found) 1 ≡ option_map_or (λ note. note_weight program proc note.expr) found 1
or_one program proc None = refl
or_one program proc (Some note) = refl

pub note_before_is : (program : Program) (outline : Outline) (notes : Notes) (r s item : ℕ) (w : Weight) → r < length program.procs → AreNotes program outline.notes notes → item ≡ proc_item program r → IsBefore notes (record { item = item; statement = s }) w →
    Weighs w (note_before_weight program outline r s)
note_before_is program outline notes r s item w l h i b =
    let found = get_there program.procs r l in
    let own : IsBefore notes (place program r s) w = subst (λ (n : ℕ). IsBefore notes (record { item = n; statement = s }) w) i b in
    let at : note_before_weight program outline r s ≡ option_map_or (λ note. note_weight program found.0 note.expr) (written_before program outline r s) 1 = rw found.1 refl in
    weighs_same (or_one program found.0 (written_before program outline r s) ∙ sym at) (own.is (first_weight program r s found.0 outline.notes) (h.are r s found.0 found.1))

-- ---- the first note of the procedure of a name

-- among procedures of which the first has this number
abbrev pub number_from : List Proc → ℕ → Name → ℕ
number_from procs at name = place_of (map (λ p. p.name) (drop at procs)) name + at

module _ (procs : List Proc) (at : ℕ) (name : Name) where
  module _ (proc : Proc) (l : at < length procs) (e : proc ≡ get_or procs at proc) where
    split : drop at procs ≡ proc ∷ drop (at + 1) procs
    split = drop_more procs at proc l ∙ ap (λ (p : Proc). p ∷ drop (at + 1) procs) (sym e)

    front : (b : Bool) → same_name proc.name name ≡ b → place_of (map (λ p. p.name) (proc ∷ drop (at + 1) procs)) name ≡ (if b then 0 else place_of (map (λ p. p.name) (drop (at + 1) procs)) name + 1)
    front true h = rw h refl
    front false h = rw h refl

    pub number_here : same_name proc.name name ≡ true → number_from procs at name ≡ at
    number_here h =
        let first = ap (λ (ps : List Proc). place_of (map (λ p. p.name) ps) name) split ∙ front true h in
        omega (arith, first)

    pub number_later : same_name proc.name name ≡ false → number_from procs (at + 1) name ≡ number_from procs at name
    number_later h =
        let first = ap (λ (ps : List Proc). place_of (map (λ p. p.name) ps) name) split ∙ front false h in
        omega (arith, first)

  pub number_none : length procs ≤ at → number_from procs at name ≡ at
  number_none l = let none : place_of (map (λ p. p.name) (drop at procs)) name ≡ 0 = ap (λ (ps : List Proc). place_of (map (λ p. p.name) ps) name) (drop_all at procs l) in omega (arith, none)

module _ (program : Program) (outline : Outline) (procs : List Proc) (at : ℕ) (name : Name) (w : Weight) where
  pub first_here : (proc : Proc) → at < length procs → proc ≡ get_or procs at proc → same_name proc.name name ≡ true → number_from procs at name ≡ proc_number program name → Weighs w (note_before_weight program outline at 0) → Weighs w (first_note_weight program outline (proc_number program name))
  first_here proc l e h k o = weighs_same (ap (λ (r : ℕ). note_before_weight program outline r 0) (sym (number_here procs at name proc l e h) ∙ k)) o

  pub first_none : procs ≡ program.procs → length procs ≤ at → number_from procs at name ≡ proc_number program name → Weighs w 1 → Weighs w (first_note_weight program outline (proc_number program name))
  first_none e l k one =
      let none : slice_get program.procs at ≡ None = ap (λ (ps : List Proc). slice_get ps at) (sym e) ∙ slice_get_past procs at l in
      let silent : note_before_weight program outline at 0 ≡ 1 = rw none refl in
      weighs_same (sym silent ∙ ap (λ (r : ℕ). note_before_weight program outline r 0) (sym (number_none procs at name l) ∙ k)) one
