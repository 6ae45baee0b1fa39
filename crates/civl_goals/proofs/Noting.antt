-- The places of notes as a set: it has a place where some note stands there.
use Rattle.std.proofs.Common.{◌≡◌, ℕ, Bool, true, false, List, [], ◌∷◌, ◌++◌, Some, refl, sym, ap, ap₂, ◌∙◌, append_assoc}
use Rattle.std.proofs.lemmas.Bool.{and_parts, eq-eqb, ne_eqb, eqb-true, eqb-false}
use Rattle.std.specs.Prelude.{◌||◌, ◌&&◌, nat_eq, is_some, if◌then◌else◌}
use Rattle.std.specs.List.{find, list_any}
use Rattle.std.proofs.lemmas.List.Folds.{list_any-append}
use Rattle.std.proofs.Math.Bool.{or-false, or-true, or_assoc}
use Rattle.civl_tree.specs.declared.program.Program.{Program}
use Rattle.civl_tree.specs.Numbering.{proc_item}
use Rattle.civl_outlines.specs.declared.outline.Note.{Note}
use Rattle.civl_outlines.specs.declared.outline.Outline.{Outline}
use Rattle.civl_goals.specs.declared.goal.Goal.{Goal}
use Rattle.civl_goals.specs.declared.goal.Goal.TheVariants as goal
use Rattle.civl_goals.specs.declared.spots.Spot.{Spot}
use Rattle.civl_goals.specs.Outlines.{stands_before, written_before}
use Rattle.civl_goals.specs.Listed.{thread_goals, linear_goals, statement_goals, goals}
use Rattle.civl_goals.specs.Spots.{same_spot, spot_of, has_spot, with_spot, with_notes}

-- the goals are pushed in their order
pub in_order : (list : List Goal) (program : Program) (outline : Outline)
    → (((list ++ goal.Invariant ∷ []) ++ thread_goals program) ++ linear_goals program) ++ statement_goals program outline ≡ list ++ goals program outline
unfolding goals
in_order list program outline =
    append_assoc ((list ++ goal.Invariant ∷ []) ++ thread_goals program) (linear_goals program) (statement_goals program outline)
    ∙ append_assoc (list ++ goal.Invariant ∷ []) (thread_goals program) (linear_goals program ++ statement_goals program outline)
    ∙ append_assoc list (goal.Invariant ∷ []) (thread_goals program ++ (linear_goals program ++ statement_goals program outline))

-- ---- tests

symmetric : (a b : ℕ) → nat_eq a b ≡ nat_eq b a
symmetric a b = by_test (nat_eq a b) refl
  where
    by_test : (t : Bool) → nat_eq a b ≡ t → nat_eq a b ≡ nat_eq b a
    by_test true e = e ∙ sym (eq-eqb b a (sym (eqb-true a b e)))
    by_test false e = e ∙ sym (ne_eqb b a (λ h. eqb-false a b e (sym h)))

-- ---- sets

spots_equal : (a b : Spot) → same_spot a b ≡ true → a ≡ b
spots_equal a b h =
    let k = and_parts (nat_eq a.item b.item) (nat_eq a.statement b.statement) h in
    let whole : ℕ → ℕ → Spot = λ item statement. record { item = item; statement = statement } in
    ap (λ (n : ℕ). whole n a.statement) (eqb-true a.item b.item k.0) ∙ ap (whole b.item) (eqb-true a.statement b.statement k.1)

-- a place that is added is in the set, and no other comes
with_has : (b : Bool) (spots : List Spot) (new spot : Spot) → has_spot spots new ≡ b → has_spot (if b then spots else spots ++ new ∷ []) spot ≡ (has_spot spots spot || same_spot spot new)
with_has true spots new spot e = by_same (same_spot spot new) refl
  where
    by_same : (t : Bool) → same_spot spot new ≡ t → has_spot spots spot ≡ (has_spot spots spot || t)
    by_same false h = sym (or-false (has_spot spots spot))
    by_same true h = ap (has_spot spots) (spots_equal spot new h) ∙ e ∙ sym (or-true (has_spot spots spot))
with_has false spots new spot e =
    list_any-append (same_spot spot) spots (new ∷ []) ∙ ap (λ (b : Bool). has_spot spots spot || b) (or-false (same_spot spot new))

pub added_has : (spots : List Spot) (new spot : Spot) → has_spot (with_spot spots new) spot ≡ (has_spot spots spot || same_spot spot new)
added_has spots new spot = with_has (has_spot spots new) spots new spot refl

abbrev pub any_there : List Note → Spot → Bool
any_there notes spot = list_any (λ note. same_spot spot (spot_of note)) notes

notes_have : (spots : List Spot) (notes : List Note) (spot : Spot) → has_spot (with_notes spots notes) spot ≡ (has_spot spots spot || any_there notes spot)
notes_have spots [] spot = sym (or-false (has_spot spots spot))
notes_have spots (note ∷ notes) spot =
    notes_have (with_spot spots (spot_of note)) notes spot
    ∙ ap (λ (b : Bool). b || any_there notes spot) (added_has spots (spot_of note) spot)
    ∙ or_assoc (has_spot spots spot) (same_spot spot (spot_of note)) (any_there notes spot)

-- ---- notes

found_step : (test : Note → Bool) (b : Bool) (note : Note) (notes : List Note) → list_any test notes ≡ is_some (find test notes) → (b || list_any test notes) ≡ is_some (if b then Some note else find test notes)
found_step test true note notes h = refl
found_step test false note notes h = h

found_is : (test : Note → Bool) (notes : List Note) → list_any test notes ≡ is_some (find test notes)
found_is test [] = refl
found_is test (note ∷ notes) = found_step test (test note) note notes (found_is test notes)

any_same : (f g : Note → Bool) (notes : List Note) → ((note : Note) → f note ≡ g note) → list_any f notes ≡ list_any g notes
any_same f g [] h = refl
any_same f g (note ∷ notes) h = ap₂ (λ (a b : Bool). a || b) (h note) (any_same f g notes h)

-- a place of a root is in the set of all notes' places just where a note is written there
pub noted_is : (program : Program) (outline : Outline) (r s : ℕ) (spots : List Spot) (item : ℕ) → spots ≡ with_notes [] outline.notes → item ≡ proc_item program r
    → has_spot spots (record { item = item; statement = s }) ≡ is_some (written_before program outline r s)
noted_is program outline r s spots item h e =
    let spot : Spot = record { item = item; statement = s } in
    ap (λ (xs : List Spot). has_spot xs spot) h ∙ notes_have [] outline.notes spot
    ∙ any_same (λ note. same_spot spot (spot_of note)) (stands_before program r s) outline.notes
    (λ note. ap₂ (λ (a b : Bool). a && b) (ap (λ (n : ℕ). nat_eq n note.item) e ∙ symmetric (proc_item program r) note.item) (symmetric s note.statement))
    ∙ found_is (stands_before program r s) outline.notes
