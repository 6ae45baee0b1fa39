-- Variables for the cells of a row, one after the other.
use Rattle.std.proofs.Common.{◌≡◌, ℕ, ◌+◌, ◌*◌, ◌^◌, ◌<◌, ◌≤◌, List, [], ◌∷◌, ◌++◌, length, get_or, refl, sym, ap, ap₂, ◌∙◌, subst, inl, inr, arith, Some, Option, add-one, append_assoc, append-nil, length-append}
use Rattle.std.specs.Prelude.{slice_get}
use Rattle.std.proofs.lemmas.Bool.{false≢true, cases_lt}
use Rattle.std.proofs.lemmas.Option.{slice_get_within, same_Some}
use Rattle.std.proofs.lemmas.List.{get_or_append_left, get_or_push, length_push}
use Rattle.civl_bits.specs.Row.{cell_at}
use Rattle.civl_bits.specs.declared.value.Value.{Value}
use Rattle.civl_bits.specs.declared.value.Value.TheVariants as value
use Rattle.civl_tree.specs.declared.expr.Sort.{Sort}
use Rattle.civl_tree.specs.declared.expr.Sort.TheVariants as sort
use Rattle.civl_firing.specs.values.Values.{HasSort}
use Rattle.civl_firing.proofs.values.Sorting.{row_of, is_a_word}
use Rattle.civl_terms.specs.declared.node.Node.{Node}
use Rattle.civl_terms.specs.declared.node.Node.TheVariants.{Variable}
use Rattle.civl_terms.specs.Graphs.{sort_at, value_at, IsFree, Fits}
use Rattle.civl_terms.specs.Building.{Lengthens, Numbers, Built}
use Rattle.civl_terms.proofs.Places.{slice_either}
use Rattle.civl_terms.proofs.Soundness.{number_same}
use Rattle.civl_blast.specs.reach.Reaching.{is_plain}
use Rattle.civl_blast.specs.rows.Cells.{cell_of, next_number, Reads}
use Rattle.civl_blast.specs.inner.rows.Making.{UsesNone, IsNew, Takes}
use Rattle.civl_blast.specs.inner.rows.Expanding.{row_entries, Expands}
use Rattle.civl_blast.specs.declared.rows.flat.Cell.{Cell}
use Rattle.civl_blast.proofs.rows.Numbering.{next-push, next_is_above}
use Rattle.civl_blast.proofs.rows.Growth.{lengthens_refl, lengthens_trans, node_stays, slice_get-append, slice_get-last}
use Rattle.civl_blast.proofs.rows.Solid.{takes_none, takes_node, takes_then, all-append}
use Rattle.civl_blast.proofs.rows.Made.{sort_kept, value_kept}

-- ---- a number above all is free

above_all : (ns : List Node) (i k : ℕ) (t : Sort) → next_number ns ≤ k → slice_get ns i ≡ Some (Variable k t) → ⊥
above_all ns i k t h e = let l = next_is_above ns i (Variable k t) e in absurd (omega arith)

pub is_free : (ns : List Node) (k : ℕ) (s : Sort) → next_number ns ≤ k → IsFree ns k s
is_free ns k s h i t e = absurd (above_all ns i k t h e)

pub is_added : (old new : List Node) (k id : ℕ) (s : Sort) → next_number old ≤ k → Numbers old new (Variable k s) id → new ≡ old ++ Variable k s ∷ []
is_added old new k id s h n = elim n.adds [
  | inl e ↦ absurd (above_all old id k s h (ap (λ (ns : List Node). slice_get ns id) (sym e) ∙ n.is))
  | inr e ↦ e
]

-- ---- the cell of a row has its sort

pub cell_sorted : (v : Value) (index width c : ℕ) → HasSort v (sort.Row index width) → c < 2 ^ index → HasSort (cell_of v c) (sort.Word width)
cell_sorted v index width c h l =
    let r = row_of v index width h in
    let P : Value → Type 0 = λ x. HasSort (cell_of x c) (sort.Word width) in
    let Q : ℕ → Type 0 = λ w. HasSort (value.Word (w, cell_at r.0 c)) (sort.Word width) in
    let fits : cell_at r.0 c < 2 ^ width = bound (r.2.fits c (omega (arith, ap (λ (k : ℕ). 2 ^ k) r.3))) (ap (λ (k : ℕ). 2 ^ k) r.4) in
    subst P (sym r.1) (subst Q (sym r.4) (is_a_word width (cell_at r.0 c) (record { narrow = omega (arith, r.2.narrow, r.4); wide = omega (arith, r.2.wide, r.4); fits = fits })))
  where
    bound : {a p q : ℕ} → a < p → p ≡ q → a < q
    bound {a} {p} {q} h e = omega arith

-- ---- values that fit

fits_variable : (env : ℕ → Value) (ns : List Node) (k : ℕ) (s : Sort) → HasSort (env k) s → Fits env ns → Fits env (ns ++ Variable k s ∷ [])
fits_variable env ns k s y f i j t e = elim (cases_lt i (length ns)) [
  | inl h ↦ f i j t (sym (slice_get-append ns (Variable k s ∷ []) i h) ∙ e)
  | inr h ↦
      let w = slice_get_within (ns ++ Variable k s ∷ []) i (Variable j t) e in
      let q : Some (Variable k s) ≡ Some (Variable j t) = sym (slice_get-last ns (Variable k s) i (omega (arith, length-append ns (Variable k s ∷ [])))) ∙ e in
      moved env k j s t (same_Some (Variable k s) (Variable j t) q) y
] where
  moved : (env : ℕ → Value) (k j : ℕ) (s t : Sort) → Variable k s ≡ Variable j t → HasSort (env k) s → HasSort (env j) t
  moved env k j s t e y =
      let a : k ≡ j = cc in
      let b : s ≡ t = cc in
      let P : ℕ → Type 0 = λ n. HasSort (env n) s in
      let Q : Sort → Type 0 = λ r. HasSort (env j) r in
      subst Q b (subst P a y)

pub reads_append : (env : ℕ → Value) (xs ys : List Cell) → Reads env (xs ++ ys) → Reads env xs × Reads env ys
reads_append env [] ys r = (tt, r)
reads_append env (x ∷ xs) ys r = let h = reads_append env xs ys r.1 in ((r.0, h.0), h.1)

-- ---- the loop

pub expand_none : (ns : List Node) (before : List Cell) (variable index width : ℕ) → Expands ns ns before before variable index width 0 []
expand_none ns before variable index width = record {
  grows = lengthens_refl ns;
  numbers = omega arith;
  cells = sym (append-nil before);
  fits = λ env f h r. f;
  size = refl;
  sorted = λ c h. absurd (omega arith);
  is = λ env f r c h. absurd (omega arith);
  only = λ i k s e. inl e;
  each = λ c h. absurd (omega arith);
  adds = takes_none UsesNone (IsNew ns) [] (0 * width) (lengthens_refl ns) (λ s u. tt);
}

once_more : (c w : ℕ) → c * w + w ≤ (c + 1) * w
once_more c w = grind arith

abbrev entry_of : ℕ → ℕ → ℕ → Cell
entry_of v c n = record { variable = v; cell = c; number = n }

pub expand_more : {old mid new : List Node} {before cells after : List Cell} {ids out : List ℕ} {weight : ℕ} (variable index width c number id : ℕ)
    → Expands old mid before cells variable index width c ids → c < 2 ^ index → number ≡ next_number old + c
    → Lengthens mid new → Numbers mid new (Variable number (sort.Word width)) id → Built mid new id (λ env. env number) (Some (sort.Word width)) weight
    → out ≡ ids ++ id ∷ [] → after ≡ cells ++ record { variable = variable; cell = c; number = number } ∷ []
    → Expands old new before after variable index width (c + 1) out
expand_more {old} {mid} {new} {before} {cells} {after} {ids} {out} variable index width c number id m l en g n b eo ea =
    let entry : Cell = record { variable = variable; cell = c; number = number } in
    let s : Option Sort = Some (sort.Word width) in
    let k : next_number mid ≡ number = m.numbers ∙ sym en in
    let added = is_added mid new number id (sort.Word width) (omega (arith, k)) n in
    let here : Cell = record { variable = variable; cell = c; number = next_number old + c } in
    let same : entry ≡ here = ap (entry_of variable c) en in
    let rows : row_entries variable (next_number old) (c + 1) ≡ row_entries variable (next_number old) c ++ here ∷ [] = ap (row_entries variable (next_number old)) (add-one c) in
    let read : (env : ℕ → Value) → Reads env after → Reads env cells × (env number ≡ cell_of (env variable) c) = λ env r.
    let P : List Cell → Type 0 = λ xs. Reads env xs in
    let h = reads_append env cells (entry ∷ []) (subst P ea r) in
    (h.0, h.1.0) in
    record {
      grows = lengthens_trans m.grows g;
      numbers = ap next_number added ∙ next-push mid (Variable number (sort.Word width)) ∙ omega (arith, k, en);
      cells = ea ∙ ap₂ (λ (xs : List Cell) (e : Cell). xs ++ e ∷ []) m.cells same ∙ append_assoc before (row_entries variable (next_number old) c) (here ∷ []) ∙ ap (λ (xs : List Cell). before ++ xs) (sym rows);
      fits = λ env f h r.
          let x = read env r in
          let P : List Node → Type 0 = λ ns. Fits env ns in
          let Q : Value → Type 0 = λ v. HasSort v (sort.Word width) in
          subst P (sym added) (fits_variable env mid number (sort.Word width) (subst Q (sym x.1) (cell_sorted (env variable) index width c h l)) (m.fits env f h x.0));
      size = ap length eo ∙ length_push ids id ∙ ap (λ (x : ℕ). x + 1) m.size;
      sorted = λ i h. elim (cases_lt i c) [
        | inl y ↦ ap (λ (xs : List ℕ). sort_at new (get_or xs i 0)) eo ∙ ap (sort_at new) (get_or_append_left ids (id ∷ []) 0 i (omega (arith, m.size))) ∙ sort_kept (get_or ids i 0) s g (m.sorted i (omega (arith, m.size))) refl
        | inr y ↦ ap (λ (xs : List ℕ). sort_at new (get_or xs i 0)) eo ∙ ap (sort_at new) (get_or_push ids id 0 i (omega (arith, m.size, ap length eo, length_push ids id))) ∙ b.sorted
      ];
      is = λ env f r i h.
          let x = read env r in
          elim (cases_lt i c) [
            | inl y ↦ ap (λ (xs : List ℕ). value_at env new (get_or xs i 0)) eo ∙ ap (value_at env new) (get_or_append_left ids (id ∷ []) 0 i (omega (arith, m.size))) ∙ value_kept env (get_or ids i 0) s g (m.sorted i (omega (arith, m.size))) refl ∙ m.is env (g.fits env f) x.0 i (omega (arith, m.size))
            | inr y ↦
                let last : i ≡ c = omega (arith, m.size, ap length eo, length_push ids id) in
                ap (λ (xs : List ℕ). value_at env new (get_or xs i 0)) eo ∙ ap (value_at env new) (get_or_push ids id 0 i (omega (arith, m.size))) ∙ b.is env f ∙ x.1 ∙ ap (cell_of (env variable)) (sym last)
          ];
      only = λ i k t e. elim (slice_either mid (Variable number (sort.Word width)) (Variable k t) i (ap (λ (ns : List Node). slice_get ns i) (sym added) ∙ e)) [
        | inl q ↦ elim (m.only i k t q) [ inl r ↦ inl r | inr r ↦ inr (r.0, omega (arith, r.1), r.2, r.3) ]
        | inr q ↦
            let z = number_same number k (sort.Word width) t q.1 in
            inr (c, omega arith, omega (arith, z.0, en), sym z.1)
      ];
      each = λ d h. elim (cases_lt d c) [
        | inl y ↦ let z = m.each d y in (z.0, node_stays mid new z.0 g (slice_get_within mid z.0 (Variable (next_number old + d) (sort.Word width)) z.1) ∙ z.1)
        | inr y ↦ (id, n.is ∙ ap (λ (x : ℕ). Some (Variable x (sort.Word width))) (omega (arith, en)))
      ];
      adds =
          let P : List ℕ → Type 0 = λ xs. Takes old new UsesNone (IsNew old) xs ((c + 1) * width) in
          let fresh : IsNew mid id = elim (cases_lt id (length mid)) [
            | inl y ↦ absurd (above_all mid id number (sort.Word width) (omega (arith, k)) (sym (node_stays mid new id g y) ∙ n.is))
            | inr y ↦ y
          ] in
          subst P (sym eo) (takes_then (IsNew old) (ids ++ id ∷ []) ((c + 1) * width) m.adds
          (takes_node UsesNone (IsNew mid) id width (Variable number (sort.Word width)) g n.is (ap is_plain b.sorted) (λ u y j q. absurd (false≢true q)) (λ i t q. fresh) (omega arith))
          (λ i y. y) (λ i y. omega (arith, y, m.grows.longer))
          (λ u t y z a. tt) (λ u t y z a d. all-append t ids (id ∷ []) a d) (once_more c width));
    }
