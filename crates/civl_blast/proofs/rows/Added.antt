-- The variables of graphs that grow.
use Rattle.std.proofs.Common.{◌≡◌, ◌⊎◌, ℕ, ◌+◌, ◌-◌, ◌^◌, ◌<◌, List, [], ◌++◌, length, refl, sym, ap, ap₂, ◌∙◌, subst, inl, inr, arith, Some}
use Rattle.std.specs.Prelude.{slice_get}
use Rattle.std.proofs.lemmas.Bool.{cases_lt}
use Rattle.std.proofs.lemmas.Option.{slice_get_within}
use Rattle.civl_tree.specs.declared.expr.Sort.{Sort}
use Rattle.civl_tree.specs.declared.expr.Sort.TheVariants as sort
use Rattle.civl_terms.specs.declared.node.Node.{Node}
use Rattle.civl_terms.specs.declared.node.Node.TheVariants.{Variable}
use Rattle.civl_terms.specs.Graphs.{IsGraph}
use Rattle.civl_terms.specs.Building.{Lengthens, Grows}
use Rattle.civl_blast.specs.rows.Cells.{next_number, StandsForCell, AddsCells}
use Rattle.civl_blast.specs.inner.rows.Expanding.{row_entries, IsCellNumber}
use Rattle.civl_blast.specs.declared.rows.flat.Cell.{Cell}
use Rattle.civl_blast.proofs.rows.Growth.{node_stays}
use Rattle.civl_blast.proofs.rows.Blocks.{entry, get-left, get-right, in_block, of_block}

-- no variable is new
pub none_added : {old new : List Node} {cells : List Cell} → Grows old new → cells ≡ [] → AddsCells old new cells
none_added {old} {new} {cells} g e =
    let P : List Cell → Type 0 = λ xs. AddsCells old new xs in
    subst P (sym e) (record { only = λ i k s f. inl (g.variables i k s f); each = λ k s h. absurd (no_entry h.place h.entry h.there) })
  where
    no_entry : (p : ℕ) (e : Cell) → slice_get [] p ≡ Some e → ⊥
    no_entry p e h = cc

-- ---- those of one row

row_width : (i w j v : ℕ) → sort.Row i w ≡ sort.Row j v → w ≡ v
row_width i w j v e = cc

pub row_added : {old new : List Node} (variable index width at : ℕ) → IsGraph old → slice_get old at ≡ Some (Variable variable (sort.Row index width))
    → ((i k : ℕ) (s : Sort) → slice_get new i ≡ Some (Variable k s) → (slice_get old i ≡ Some (Variable k s)) ⊎ IsCellNumber (next_number old) width (2 ^ index) k s)
    → ((c : ℕ) → c < 2 ^ index → (i : ℕ) × (slice_get new i ≡ Some (Variable (next_number old + c) (sort.Word width))))
    → AddsCells old new (row_entries variable (next_number old) (2 ^ index))
row_added {old} {new} variable index width at graph node only each =
    let first = next_number old in
    record {
      only = λ i k s e. elim (only i k s e) [
        | inl q ↦ inl q
        | inr q ↦ inr (record {
          place = q.0;
          entry = entry variable q.0 (first + q.0);
          there = in_block variable first (2 ^ index) q.0 q.1;
          numbered = q.2;
          row = at;
          index = index;
          width = width;
          is_row = node;
          sorted = q.3;
        })
      ];
      each = λ k s h.
          let b = of_block variable first (2 ^ index) h.place h.entry h.there in
          let named : h.entry.variable ≡ variable = sym (ap (λ (x : Cell). x.variable) b.1) in
          let number : h.entry.number ≡ first + h.place = sym (ap (λ (x : Cell). x.number) b.1) in
          let theirs : slice_get old h.row ≡ Some (Variable variable (sort.Row h.index h.width)) = h.is_row ∙ ap (λ (x : ℕ). Some (Variable x (sort.Row h.index h.width))) named in
          let wide : h.width ≡ width = row_width h.index h.width index width (graph.variables at (Variable variable (sort.Row index width)) node h.row (sort.Row h.index h.width) theirs) in
          let x = each h.place b.0 in
          (x.0, x.1 ∙ ap₂ (λ (n : ℕ) (t : Sort). Some (Variable n t)) (sym (h.numbered ∙ number)) (sym (h.sorted ∙ ap (λ (w : ℕ). sort.Word w) wide)));
    }

-- ---- one after the other

no_row : (i w v : ℕ) → sort.Row i w ≡ sort.Word v → ⊥
no_row i w v e = cc

front : {ns : List Node} {xs : List Cell} {k : ℕ} {s : Sort} (ys : List Cell) → StandsForCell ns xs k s → StandsForCell ns (xs ++ ys) k s
front {ns} {xs} ys h = record {
  place = h.place;
  entry = h.entry;
  there = get-left xs ys h.place (slice_get_within xs h.place h.entry h.there) ∙ h.there;
  numbered = h.numbered;
  row = h.row;
  index = h.index;
  width = h.width;
  is_row = h.is_row;
  sorted = h.sorted;
}

-- a row of the grown graph is one of the graph before
behind : {a b : List Node} {xs ys : List Cell} {k : ℕ} {s : Sort} → AddsCells a b xs → StandsForCell b ys k s → StandsForCell a (xs ++ ys) k s
behind {a} {b} {xs} {ys} x h = record {
  place = length xs + h.place;
  entry = h.entry;
  there = get-right xs ys (length xs + h.place) h.place refl ∙ h.there;
  numbered = h.numbered;
  row = h.row;
  index = h.index;
  width = h.width;
  is_row = elim (x.only h.row h.entry.variable (sort.Row h.index h.width) h.is_row) [ inl q ↦ q | inr q ↦ absurd (no_row h.index h.width q.width q.sorted) ];
  sorted = h.sorted;
}

pub added_then : {a b c : List Node} {xs ys : List Cell} → Lengthens a b → Lengthens b c → AddsCells a b xs → AddsCells b c ys → AddsCells a c (xs ++ ys)
added_then {a} {b} {c} {xs} {ys} g h x y = record {
  only = λ i k s e. elim (y.only i k s e) [
    | inl q ↦ elim (x.only i k s q) [ inl r ↦ inl r | inr r ↦ inr (front ys r) ]
    | inr q ↦ inr (behind x q)
  ];
  each = λ k s e. elim (cases_lt e.place (length xs)) [
    | inl l ↦
        let z = x.each k s (record {
          place = e.place;
          entry = e.entry;
          there = sym (get-left xs ys e.place l) ∙ e.there;
          numbered = e.numbered;
          row = e.row;
          index = e.index;
          width = e.width;
          is_row = e.is_row;
          sorted = e.sorted;
        }) in
        (z.0, node_stays b c z.0 h (slice_get_within b z.0 (Variable k s) z.1) ∙ z.1)
    | inr l ↦ y.each k s (record {
      place = e.place - length xs;
      entry = e.entry;
      there = sym (get-right xs ys e.place (e.place - length xs) (omega arith)) ∙ e.there;
      numbered = e.numbered;
      row = e.row;
      index = e.index;
      width = e.width;
      is_row = node_stays a b e.row g (slice_get_within a e.row (Variable e.entry.variable (sort.Row e.index e.width)) e.is_row) ∙ e.is_row;
      sorted = e.sorted;
    })
  ];
}
