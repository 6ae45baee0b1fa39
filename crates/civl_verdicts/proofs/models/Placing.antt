-- One place more is read.
use Rattle.std.specs.Prelude.{slice_get, slice_set, get_or}
use Rattle.std.proofs.Common.{◌≡◌, ◌∙◌, ℕ, zero, suc, ◌<◌, Bool, List, [], ◌∷◌, length, refl, sym, ap, subst, arith, inl, inr, Some}
use Rattle.std.proofs.lemmas.Bool.{cases_eq}
use Rattle.std.proofs.lemmas.List.{get_or-set_same, get_or-set_other}
use Rattle.std.proofs.lemmas.Option.{same_Some}
use Rattle.civl_bits.specs.declared.value.Value.{Value}
use Rattle.civl_tree.specs.declared.expr.Sort.{Sort}
use Rattle.civl_firing.specs.values.Operators.{nothing}
use Rattle.civl_firing.specs.values.Values.{HasSort, HaveSorts, sort_of_value}
use Rattle.civl_terms.proofs.Soundness.{sort_is}
use Rattle.civl_firing.proofs.Having.{more_sorts, first_sort, rest_sorts}
use Rattle.civl_symbolic.specs.Symbolic.{Shows}
use Rattle.civl_terms.specs.Graphs.{listed}
use Rattle.civl_blast.specs.rows.Cells.{cell_of, cells_in}
use Rattle.civl_blast.specs.declared.blasted.Place.{Place}
use Rattle.civl_verdicts.specs.models.Reading.{with_cell, IsCellPlace}
use Rattle.civl_verdicts.proofs.models.CellsRead.{cell_read, others_stay, keeps_sort}

-- ---- values of sorts, by their places

pub sort_of_place : (values : List Value) (sorts : List Sort) (k : ℕ) (s : Sort) → HaveSorts values sorts → slice_get sorts k ≡ Some s → HasSort (get_or values k nothing) s
sort_of_place [] [] k s h e = absurd (cc)
sort_of_place [] (t ∷ ts) k s h e = absurd (cc)
sort_of_place (v ∷ vs) [] k s h e = absurd (cc)
sort_of_place (v ∷ vs) (t ∷ ts) zero s h e = let same : t ≡ s = cc in subst (HasSort v) same (first_sort v t vs ts h)
sort_of_place (v ∷ vs) (t ∷ ts) (suc k) s h e = sort_of_place vs ts k s (rest_sorts v t vs ts h) e

pub within_values : (values : List Value) (sorts : List Sort) (k : ℕ) (s : Sort) → HaveSorts values sorts → slice_get sorts k ≡ Some s → k < length values
within_values [] [] k s h e = absurd (cc)
within_values [] (t ∷ ts) k s h e = absurd (cc)
within_values (v ∷ vs) [] k s h e = absurd (cc)
within_values (v ∷ vs) (t ∷ ts) zero s h e = omega arith
within_values (v ∷ vs) (t ∷ ts) (suc k) s h e = omega (arith, within_values vs ts k s (rest_sorts v t vs ts h) e)

pub sorts_with : (values : List Value) (sorts : List Sort) (k : ℕ) (s : Sort) (x : Value) → HaveSorts values sorts → slice_get sorts k ≡ Some s → HasSort x s → HaveSorts (slice_set values k x) sorts
sorts_with [] [] k s x h e p = absurd (cc)
sorts_with [] (t ∷ ts) k s x h e p = absurd (cc)
sorts_with (v ∷ vs) [] k s x h e p = absurd (cc)
sorts_with (v ∷ vs) (t ∷ ts) zero s x h e p = let same : s ≡ t = cc in more_sorts x t vs ts (subst (HasSort x) same p) (rest_sorts v t vs ts h)
sorts_with (v ∷ vs) (t ∷ ts) (suc k) s x h e p = more_sorts v t (slice_set vs k x) ts (first_sort v t vs ts h) (sorts_with vs ts k s x (rest_sorts v t vs ts h) e p)

pub same_default : (values : List Value) (k : ℕ) (d e : Value) → k < length values → get_or values k d ≡ get_or values k e
same_default [] k d e l = absurd (omega arith)
same_default (v ∷ vs) zero d e l = refl
same_default (v ∷ vs) (suc k) d e l = same_default vs k d e (omega (arith, l))

pub sort_here : (values : List Value) (sorts : List Sort) (k : ℕ) (s : Sort) (x d : Value) → HaveSorts values sorts → slice_get sorts k ≡ Some s → x ≡ get_or values k d → sort_of_value x ≡ s
sort_here values sorts k s x d h e is =
    sort_is x s (subst (λ (y : Value). HasSort y s) (sym (is ∙ same_default values k d nothing (within_values values sorts k s h e))) (sort_of_place values sorts k s h e))

-- ---- one place

abbrev pub placed : (ℕ → Bool) → Place → List Value → List Value
placed v p values = slice_set values p.variable (with_cell v p.first (listed values p.variable) p.cell)

pub sorts_stay : (v : ℕ → Bool) (sorts : List Sort) (count : ℕ) (p : Place) (values : List Value) → IsCellPlace sorts count p → HaveSorts values sorts → HaveSorts (placed v p values) sorts
sorts_stay v sorts count p values h fit =
    let x = sort_of_place values sorts p.variable h.sort fit h.there in
    sorts_with values sorts p.variable h.sort _ fit h.there (keeps_sort v p.first h.sort (listed values p.variable) p.cell x h.cell)

-- a cell that isn't this one stays
pub cell_stays : (v : ℕ → Bool) (sorts : List Sort) (count : ℕ) (p : Place) (values : List Value) (k c : ℕ) (s : Sort) → IsCellPlace sorts count p → HaveSorts values sorts
    → slice_get sorts k ≡ Some s → c < cells_in (Some s) → (p.variable ≡ k → p.cell ≡ c → ⊥) → cell_of (listed (placed v p values) k) c ≡ cell_of (listed values k) c
cell_stays v sorts count p values k c s h fit e l ne = elim (cases_eq k p.variable) [
  | inl same ↦
      let sorts_same = same_Some h.sort s (sym h.there ∙ ap (slice_get sorts) (sym same) ∙ e) in
      let there = get_or-set_same values p.variable (with_cell v p.first (listed values p.variable) p.cell) nothing (within_values values sorts p.variable h.sort fit h.there) in
      let x = sort_of_place values sorts p.variable h.sort fit h.there in
      ap (λ (j : ℕ). cell_of (listed (placed v p values) j) c) same ∙ ap (λ (z : Value). cell_of z c) there
      ∙ others_stay v p.first h.sort (listed values p.variable) p.cell c x h.cell (subst (λ (t : Sort). c < cells_in (Some t)) (sym sorts_same) l) (λ q. ne (sym same) (sym q))
      ∙ ap (λ (j : ℕ). cell_of (listed values j) c) (sym same)
  | inr other ↦ ap (λ (z : Value). cell_of z c) (get_or-set_other values p.variable k (with_cell v p.first (listed values p.variable) p.cell) nothing other)
]

-- this cell is what the bits show
pub cell_placed : (v : ℕ → Bool) (sorts : List Sort) (count : ℕ) (p : Place) (values : List Value) (env : ℕ → Value) → (h : IsCellPlace sorts count p) → HaveSorts values sorts
    → HasSort (env p.variable) h.sort → Shows v p.first (cell_of (env p.variable) p.cell) → cell_of (listed (placed v p values) p.variable) p.cell ≡ cell_of (env p.variable) p.cell
cell_placed v sorts count p values env h fit has shows =
    let there = get_or-set_same values p.variable (with_cell v p.first (listed values p.variable) p.cell) nothing (within_values values sorts p.variable h.sort fit h.there) in
    let x = sort_of_place values sorts p.variable h.sort fit h.there in
    ap (λ (z : Value). cell_of z p.cell) there ∙ cell_read v p.first h.sort (listed values p.variable) (env p.variable) p.cell x has h.cell shows

-- a cell that was what the bits show still is
pub shown_stays : (v : ℕ → Bool) (sorts : List Sort) (count : ℕ) (p q : Place) (values : List Value) (env : ℕ → Value) → (h : IsCellPlace sorts count p) → IsCellPlace sorts count q → HaveSorts values sorts
    → HasSort (env p.variable) h.sort → Shows v p.first (cell_of (env p.variable) p.cell) → cell_of (listed values q.variable) q.cell ≡ cell_of (env q.variable) q.cell
    → cell_of (listed (placed v p values) q.variable) q.cell ≡ cell_of (env q.variable) q.cell
shown_stays v sorts count p q values env h g fit has shows was = elim (cases_eq p.variable q.variable) [
  | inl same ↦ elim (cases_eq p.cell q.cell) [
    | inl cell ↦
        ap (λ (j : ℕ). cell_of (listed (placed v p values) j) q.cell) (sym same) ∙ ap (cell_of (listed (placed v p values) p.variable)) (sym cell)
        ∙ cell_placed v sorts count p values env h fit has shows
        ∙ ap (cell_of (env p.variable)) cell ∙ ap (λ (j : ℕ). cell_of (env j) q.cell) same
    | inr other ↦ cell_stays v sorts count p values q.variable q.cell g.sort h fit g.there g.cell (λ a b. other b) ∙ was
  ]
  | inr other ↦ cell_stays v sorts count p values q.variable q.cell g.sort h fit g.there g.cell (λ a b. other a) ∙ was
]
