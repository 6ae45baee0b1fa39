-- Notes that don't stand where they should, one by one.
use Rattle.std.proofs.Common.{◌≡◌, ℕ, ◌+◌, ◌<◌, ◌≤◌, Bool, true, false, List, [], ◌∷◌, ◌++◌, length, drop, take, get_or, None, Some, refl, sym, ap, ◌∙◌, subst, arith}
use Rattle.std.specs.Prelude.{◌&&◌, ◌||◌, not, nat_eq, if◌then◌else◌, Option}
use Rattle.std.specs.List.{find}
use Rattle.std.specs.Option.{option_map, option_map_or}
use Rattle.std.proofs.lemmas.List.{drop_more, drop_all, take_more}
use Rattle.std.proofs.lemmas.List.Folds.{list_any-append}
use Rattle.std.proofs.lemmas.Bool.{eq-eqb}
use Rattle.std.proofs.Math.Bool.{or-false}
use Rattle.civl_tree.specs.declared.expr.Expr.{Expr}
use Rattle.civl_tree.specs.declared.program.Proc.{Proc}
use Rattle.civl_tree.specs.declared.program.Program.{Program}
use Rattle.civl_tree.specs.Numbering.{proc_item}
use Rattle.civl_tree.specs.rules.Rules.{first_of}
use Rattle.civl_conditions.specs.Steps.{each_at}
use Rattle.civl_outlines.specs.declared.outline.Note.{Note}
use Rattle.civl_outlines.specs.declared.outline.Outline.{Outline}
use Rattle.civl_goals.specs.declared.spots.Spot.{Spot}
use Rattle.civl_goals.specs.Listed.{is_root}
use Rattle.civl_names.proofs.walks.Walking.{or_first, first_append}
use Rattle.civl_goals.specs.Rules.{says_of, hold_scope, root_at, stands_in, note_fits, misplaced, unfit_holds, unfit}
use Rattle.civl_goals.specs.Spots.{same_spot, spot_of, has_spot, with_spot}
use Rattle.civl_goals.proofs.Noting.{added_has, any_there}

-- ---- the root that is an item

-- among procedures of which the first has this place
abbrev pub root_from : Program → ℕ → ℕ → List Proc → Option Proc
root_from program item place procs = option_map (λ (q : ℕ × Proc). q.1) (find (λ (q : ℕ × Proc). nat_eq (proc_item program q.0) item && is_root q.1) (each_at (λ r proc. (r, proc) ∷ []) place procs))

module _ (program : Program) (item at : ℕ) where
  abbrev is_it : Proc → Bool
  is_it proc = nat_eq (proc_item program at) item && is_root proc

  first_is : (b : Bool) (proc : Proc) (rest : List Proc) → is_it proc ≡ b → root_from program item at (proc ∷ rest) ≡ (if b then Some proc else root_from program item (at + 1) rest)
  first_is true proc rest e = rw e refl
  first_is false proc rest e = rw e refl

  module _ (procs : List Proc) where
    split : (proc : Proc) → at < length procs → proc ≡ get_or procs at proc → drop at procs ≡ proc ∷ drop (at + 1) procs
    split proc l e = drop_more procs at proc l ∙ ap (λ (y : Proc). y ∷ drop (at + 1) procs) (sym e)

    pub root_here : (proc : Proc) → at < length procs → proc ≡ get_or procs at proc → is_it proc ≡ true → root_from program item at (drop at procs) ≡ Some proc
    root_here proc l e h = ap (root_from program item at) (split proc l e) ∙ first_is true proc (drop (at + 1) procs) h

    pub root_later : (proc : Proc) → at < length procs → proc ≡ get_or procs at proc → is_it proc ≡ false → root_from program item (at + 1) (drop (at + 1) procs) ≡ root_from program item at (drop at procs)
    root_later proc l e h = sym (ap (root_from program item at) (split proc l e) ∙ first_is false proc (drop (at + 1) procs) h)

    pub root_none : length procs ≤ at → root_from program item at (drop at procs) ≡ None
    root_none l = ap (root_from program item at) (drop_all at procs l)

pub is_root_item : (program : Program) (item at number : ℕ) (proc : Proc) → number ≡ proc_item program at → number ≡ item → is_root proc ≡ true → is_it program item at proc ≡ true
is_root_item program item at number proc e f h = rw (eq-eqb (proc_item program at) item (sym e ∙ f), h) refl

-- ---- holds

-- what is said of an item, and of those behind it
step : {A B : Type 0} (f : ℕ → A → List B) (xs : List A) (i : ℕ) (x : A) → i < length xs → x ≡ get_or xs i x → each_at f i (drop i xs) ≡ f i x ++ each_at f (i + 1) (drop (i + 1) xs)
step f xs i x l e = ap (each_at f i) (drop_more xs i x l ∙ ap (λ y. y ∷ drop (i + 1) xs) (sym e))

module _ (program : Program) (holds : List Expr) (at : ℕ) (hold : Expr) (l : at < length holds) (e : hold ≡ get_or holds at hold) where
  abbrev unfit_at : ℕ → Expr → List ℕ
  unfit_at number e = if says_of (hold_scope program) e then [] else number ∷ []

  pub hold_here : says_of (hold_scope program) hold ≡ false → first_of (each_at unfit_at at (drop at holds)) ≡ Some at
  hold_here h = ap first_of (step unfit_at holds at hold l e) ∙ rw h refl

  pub hold_later : says_of (hold_scope program) hold ≡ true → first_of (each_at unfit_at (at + 1) (drop (at + 1) holds)) ≡ first_of (each_at unfit_at at (drop at holds))
  hold_later h = sym (ap first_of (step unfit_at holds at hold l e) ∙ rw h refl)

-- ---- notes behind others

module _ (program : Program) where
  here : (earlier : List Note) (number : ℕ) (note : Note) (rest : List Note) → note_fits program earlier note ≡ false → first_of (misplaced program earlier number (note ∷ rest)) ≡ Some number
  here earlier number note rest e = rw e refl

  later : (earlier : List Note) (number : ℕ) (note : Note) (rest : List Note) → note_fits program earlier note ≡ true
      → first_of (misplaced program earlier number (note ∷ rest)) ≡ first_of (misplaced program (earlier ++ note ∷ []) (number + 1) rest)
  later earlier number note rest e = rw e refl

  module _ (notes : List Note) (before at : ℕ) (note : Note) (l : at < length notes) (e : note ≡ get_or notes at note) where
    split_notes : drop at notes ≡ note ∷ drop (at + 1) notes
    split_notes = drop_more notes at note l ∙ ap (λ (y : Note). y ∷ drop (at + 1) notes) (sym e)

    pub taken_notes : take (at + 1) notes ≡ take at notes ++ note ∷ []
    taken_notes = take_more notes at note l ∙ ap (λ (y : Note). take at notes ++ y ∷ []) (sym e)

    -- whether it fits, where the answer tells of the root and of an earlier place
    fits_by : (told stood twice : Bool) → told ≡ (stood && not twice) → stood ≡ option_map_or (stands_in program note) (root_at program note.item) false → twice ≡ any_there (take at notes) (spot_of note)
        → note_fits program (take at notes) note ≡ told
    fits_by told stood twice h s t = sym (h ∙ ap (λ (b : Bool). b && not twice) s ∙ ap (λ (b : Bool). option_map_or (stands_in program note) (root_at program note.item) false && not b) t)

    pub note_here : note_fits program (take at notes) note ≡ false → (whole : Option ℕ) → first_of (misplaced program (take at notes) (before + at) (drop at notes)) ≡ whole → Some (before + at) ≡ whole
    note_here h whole k =
        sym (ap (λ (ns : List Note). first_of (misplaced program (take at notes) (before + at) ns)) split_notes ∙ here (take at notes) (before + at) note (drop (at + 1) notes) h) ∙ k

    pub note_later : note_fits program (take at notes) note ≡ true → (whole : Option ℕ) → first_of (misplaced program (take at notes) (before + at) (drop at notes)) ≡ whole
        → first_of (misplaced program (take (at + 1) notes) (before + (at + 1)) (drop (at + 1) notes)) ≡ whole
    note_later h whole k =
        let next : before + (at + 1) ≡ before + at + 1 = omega arith in
        ap (λ (n : ℕ). first_of (misplaced program (take (at + 1) notes) n (drop (at + 1) notes))) next
        ∙ ap (λ (ns : List Note). first_of (misplaced program ns (before + at + 1) (drop (at + 1) notes))) taken_notes
        ∙ sym (ap (λ (ns : List Note). first_of (misplaced program (take at notes) (before + at) ns)) split_notes ∙ later (take at notes) (before + at) note (drop (at + 1) notes) h) ∙ k

    pub fits_told : (told : Bool) (spots : List Spot) → told ≡ (option_map_or (stands_in program note) (root_at program note.item) false && not (has_spot spots (spot_of note))) → ((spot : Spot) → has_spot spots spot ≡ any_there (take at notes) spot)
        → note_fits program (take at notes) note ≡ told
    fits_told told spots h k = fits_by told _ _ h refl (k (spot_of note))

-- ---- both

module _ (program src : Program) (same : program ≡ src) (outline : Outline) where
  abbrev of_holds : Option ℕ
  of_holds = first_of (unfit_holds program outline.holds)

  abbrev of_notes : Option ℕ
  of_notes = first_of (misplaced program [] (length outline.holds) outline.notes)

  of_both : or_first of_holds of_notes ≡ first_of (unfit src outline)
  of_both = subst (λ (p : Program). or_first of_holds of_notes ≡ first_of (unfit p outline)) same (sym (first_append (unfit_holds program outline.holds) (misplaced program [] (length outline.holds) outline.notes)))

  pub hold_first : (number : ℕ) → Some number ≡ of_holds → Some number ≡ first_of (unfit src outline)
  hold_first number h = ap (λ (o : Option ℕ). or_first o of_notes) h ∙ of_both

  pub note_first : (found : Option ℕ) → None ≡ of_holds → found ≡ of_notes → found ≡ first_of (unfit src outline)
  note_first found h e = e ∙ ap (λ (o : Option ℕ). or_first o of_notes) h ∙ of_both

-- the places of the notes before one, and of it
pub more_there : (spots after : List Spot) (earlier : List Note) (note : Note) → after ≡ with_spot spots (spot_of note) → ((spot : Spot) → has_spot spots spot ≡ any_there earlier spot)
    → (spot : Spot) → has_spot after spot ≡ any_there (earlier ++ note ∷ []) spot
more_there spots after earlier note e h spot =
    ap (λ (xs : List Spot). has_spot xs spot) e ∙ added_has spots (spot_of note) spot
    ∙ ap (λ (b : Bool). b || same_spot spot (spot_of note)) (h spot)
    ∙ sym (list_any-append (λ n. same_spot spot (spot_of n)) earlier (note ∷ []) ∙ ap (λ (b : Bool). any_there earlier spot || b) (or-false (same_spot spot (spot_of note))))
