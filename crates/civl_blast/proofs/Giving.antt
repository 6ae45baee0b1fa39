-- What places of cells tell of the term that was flattened.
use Rattle.std.specs.Prelude.{slice_get}
use Rattle.std.proofs.Common.{◌≡◌, ℕ, zero, suc, ◌+◌, ◌≤◌, List, [], ◌∷◌, map, refl, sym, ◌∙◌, ap, subst, inl, inr, arith, Bool, Some}
use Rattle.std.proofs.lemmas.List.Elements.{All-nil, All-cons, All-head, All-tail}
use Rattle.civl_bits.specs.declared.value.Value.{Value}
use Rattle.civl_tree.specs.declared.expr.Sort.{Sort}
use Rattle.civl_tree.specs.declared.expr.Sort.TheVariants as sort
use Rattle.civl_firing.specs.values.Values.{HasSort}
use Rattle.civl_firing.proofs.values.Sorting.{word_of}
use Rattle.civl_symbolic.specs.Symbolic.{Shows}
use Rattle.civl_terms.specs.declared.node.Node.{Node}
use Rattle.civl_terms.specs.declared.node.Node.TheVariants.{Variable}
use Rattle.civl_terms.specs.Graphs.{IsGraph, Fits, value_at}
use Rattle.civl_terms.specs.Building.{Lengthens}
use Rattle.civl_blast.specs.reach.Reaching.{Reaches, IsRowless}
use Rattle.civl_blast.specs.rows.Cells.{cell_of, next_number, HasEntries, StandsForCell, ReachesOnly}
use Rattle.civl_blast.specs.rows.Cells as cells
use Rattle.civl_blast.specs.declared.rows.flat.Cell.{Cell}
use Rattle.civl_blast.proofs.rows.Numbering.{next_is_above}
use Rattle.civl_blast.specs.declared.blasted.Place.{Place}
use Rattle.civl_blast.specs.Standing.{cell_bits, IsPlaced, ShowAll, HasPlaces, NamesCells, GivesValues}
use Rattle.civl_blast.specs.inner.Renaming.{place_of_cell}
use Rattle.civl_blast.proofs.Laying.{variable_plain}
use Rattle.civl_blast.proofs.Renaming.{place_other, place_of_entry, first_same}
use Rattle.civl_blast.proofs.Gathering.{HasOnce, gather, gather_sort, gather_plain, gather_cell}

-- a graph grew by a term without rows that has the same value
pub record IsFlattened (old new : List Node) (id flat : ℕ) (es : List Cell) : Type 0 where
  pub grows : Lengthens old new
  pub old_graph : IsGraph old
  pub new_graph : IsGraph new
  pub rowless : IsRowless new flat
  pub entries : HasEntries old id es
  pub reaches : ReachesOnly old id new flat es
  pub fits : (env : ℕ → Value) → Fits env old → cells.Reads env es → Fits env new
  pub value : (env : ℕ → Value) → Fits env old → cells.Reads env es → value_at env new flat ≡ value_at env old id

pub flattened : {old new : List Node} {id flat : ℕ} {es : List Cell} → Lengthens old new → IsGraph old → IsGraph new → IsRowless new flat → HasEntries old id es → ReachesOnly old id new flat es → ((env : ℕ → Value) → Fits env old → cells.Reads env es → Fits env new) → ((env : ℕ → Value) → Fits env old → cells.Reads env es → value_at env new flat ≡ value_at env old id) → IsFlattened old new id flat es
flattened g o n r e a f v = record { grows = g; old_graph = o; new_graph = n; rowless = r; entries = e; reaches = a; fits = f; value = v }

-- the width of the cells of a row that has an entry
entry_width : {old new : List Node} {id flat k : ℕ} {es : List Cell} {s : Sort} → IsFlattened old new id flat es → (h : StandsForCell old es k s) → (row index width : ℕ) → slice_get old row ≡ Some (Variable h.entry.variable (sort.Row index width)) → s ≡ sort.Word width
entry_width {old} {new} {id} {flat} {k} {es} {s} f h row index width e =
    let same : sort.Row index width ≡ sort.Row h.index h.width = f.old_graph.variables h.row (Variable h.entry.variable (sort.Row h.index h.width)) h.is_row row (sort.Row index width) e in
    h.sorted ∙ ap (λ (r : Sort). sort.Word (cell_bits r)) (sym same)

entries_once : {ns : List Node} {id : ℕ} {es : List Cell} → HasEntries ns id es → HasOnce es
entries_once {ns} h p q d e x y v w = h.numbers p d x ∙ ap (λ n. next_number ns + n) (h.once p q d e x y v w) ∙ sym (h.numbers q e y)

-- ---- any bits give values

reads_again : (v : ℕ → Bool) (es : List Cell) (env other : ℕ → Value) (places : List Place) → ((p : ℕ) (q : Place) → slice_get places p ≡ Some q → cell_of (other (place_of_cell es q).variable) (place_of_cell es q).cell ≡ cell_of (env q.variable) q.cell) → ShowAll v places env → ShowAll v (map (place_of_cell es) places) other
reads_again v es env other [] each h = All-nil (λ p. Shows v p.first (cell_of (other p.variable) p.cell))
reads_again v es env other (q ∷ qs) each h =
    let Shown : Place → Type 0 = λ p. Shows v p.first (cell_of (env p.variable) p.cell) in
    let P : Value → Type 0 = λ x. Shows v q.first x in
    let Q : ℕ → Type 0 = λ n. Shows v n (cell_of (other (place_of_cell es q).variable) (place_of_cell es q).cell) in
    All-cons (λ p. Shows v p.first (cell_of (other p.variable) p.cell)) (place_of_cell es q) (map (place_of_cell es) qs)
    (subst Q (sym (first_same es q)) (subst P (sym (each 0 q refl)) (All-head Shown q qs h)))
    (reads_again v es env other qs (λ p r g. each (suc p) r g) (All-tail Shown q qs h))

word_cell : (x : Value) (w c : ℕ) → HasSort x (sort.Word w) → cell_of x c ≡ x
word_cell x w c h = let a = word_of x w h in ap (λ y. cell_of y c) a.1 ∙ sym a.1

-- the values of the new variables, with each row's cells gathered, are at each place what they were
gathered_place : {old new : List Node} {id flat : ℕ} {es : List Cell} → IsFlattened old new id flat es → (env : ℕ → Value) → Fits env new → (q : Place) (i : ℕ) (s : Sort) → Reaches new flat i → slice_get new i ≡ Some (Variable q.variable s) → cell_of (gather es env (place_of_cell es q).variable) (place_of_cell es q).cell ≡ cell_of (env q.variable) q.cell
gathered_place {old} {new} {id} {flat} {es} f env fits q i s r node =
    let fits_old = f.grows.fits env fits in
    let cell : Place → Value = λ p. cell_of (gather es env p.variable) p.cell in
    elim (f.reaches i q.variable s r node) [
      | inl h ↦
          let above = next_is_above old i (Variable q.variable s) h.1 in
          ap cell (place_other (next_number old) es q f.entries.numbers (omega arith))
          ∙ ap (λ x. cell_of x q.cell) (gather_plain es env q.variable s (fits i q.variable s node) (variable_plain f.new_graph f.rowless i q.variable s r node))
      | inr h ↦
          let e = h.entry in
          let row = f.entries.only h.place e h.there in
          let has_row = fits_old row.0 e.variable (sort.Row row.1 row.2) row.4 in
          let P : Sort → Type 0 = λ t. HasSort (env q.variable) t in
          let Q : ℕ → Type 0 = λ k. HasSort (env k) (sort.Word row.2) in
          let has_word = subst Q h.numbered (subst P (entry_width f h row.0 row.1 row.2 row.4) (fits i q.variable s node)) in
          ap cell (place_of_entry (next_number old) es q h.place e f.entries.numbers h.there h.numbered)
          ∙ gather_cell es env h.place e row.1 row.2 (entries_once f.entries) h.there row.5 has_row has_word
          ∙ sym (word_cell (env e.number) row.2 q.cell has_word)
          ∙ ap (λ k. cell_of (env k) q.cell) (sym h.numbered)
    ]

pub gives_for_cells : {old new : List Node} {id flat count : ℕ} {es : List Cell} {places : List Place} → IsFlattened old new id flat es → HasPlaces new flat count places → GivesValues new places → GivesValues old (map (place_of_cell es) places)
gives_for_cells {old} {new} {id} {flat} {count} {es} {places} f has gives v =
    let given = gives v in
    let env = given.0 in
    let fits_old = f.grows.fits env given.1 in (
      gather es env,
      (λ i k s e. gather_sort es env k s (fits_old i k s e)),
      reads_again v es env (gather es env) places (λ p q g. let here = has.only p q g in gathered_place f env given.1 q here.0 here.1 here.2 here.3) given.2,
    )

-- ---- each place is that of a cell of a variable that the old term reaches

-- a cell of a row that has an entry
of_entry : {old new : List Node} {id flat : ℕ} {es : List Cell} → IsFlattened old new id flat es → (count : ℕ) (q : Place) (s : Sort) → StandsForCell old es q.variable s → q.first + cell_bits s ≤ count → IsPlaced old id count (place_of_cell es q)
of_entry {old} {new} {id} {flat} {es} f count q s h room =
    let P : Place → Type 0 = IsPlaced old id count in
    let row = f.entries.only h.place h.entry h.there in
    let wide : q.first + row.2 ≤ count = omega (arith, room, ap cell_bits (entry_width f h row.0 row.1 row.2 row.4)) in
    subst P (sym (place_of_entry (next_number old) es q h.place h.entry f.entries.numbers h.there h.numbered)) (row.0, sort.Row row.1 row.2, row.3, row.4, row.5, wide)

placed_before : {old new : List Node} {id flat : ℕ} {es : List Cell} → IsFlattened old new id flat es → (count : ℕ) (q : Place) → IsPlaced new flat count q → IsPlaced old id count (place_of_cell es q)
placed_before {old} {new} {id} {flat} {es} f count q (i, s, r, node, low, room) = elim (f.reaches i q.variable s r node) [
  | inl h ↦
      let P : Place → Type 0 = IsPlaced old id count in
      let above = next_is_above old i (Variable q.variable s) h.1 in
      subst P (sym (place_other (next_number old) es q f.entries.numbers (omega arith))) (i, s, h.0, h.1, low, room)
  | inr h ↦ of_entry f count q s h room
]

-- the place before
place_under : (es : List Cell) (places : List Place) (p : ℕ) (e : Place) → slice_get (map (place_of_cell es) places) p ≡ Some e → (q : Place) × (slice_get places p ≡ Some q) × (place_of_cell es q ≡ e)
place_under es [] p e g = absurd cc
place_under es (q ∷ qs) zero e g = (q, refl, cc)
place_under es (q ∷ qs) (suc p) e g = place_under es qs p e g

pub names_cells : {old new : List Node} {id flat count : ℕ} {es : List Cell} {places : List Place} → IsFlattened old new id flat es → HasPlaces new flat count places → NamesCells old id count (map (place_of_cell es) places)
names_cells {old} {new} {id} {flat} {count} {es} {places} f has = record {
  only = λ p e g.
      let under = place_under es places p e g in
      let P : Place → Type 0 = IsPlaced old id count in
      subst P under.2 (placed_before f count under.0 (has.only p under.0 under.1));
}
