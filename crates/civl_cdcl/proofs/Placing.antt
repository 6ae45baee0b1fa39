-- A clause in another order.
use Rattle.std.proofs.Common.{◌≡◌, ◌⊎◌, ℕ, ◌<◌, List, length, get_or, sym, ◌∙◌, ap, inl, inr, Bool, false, not, eqb}
use Rattle.std.specs.Prelude.{Contains, Option}
use Rattle.std.specs.List.Sorted.{IsPermutation}
use Rattle.std.proofs.lemmas.Bool.Decides.{eqb_tells}
use Rattle.std.proofs.lemmas.List.{get_or_default}
use Rattle.std.proofs.lemmas.List.Sorted.{All-permutation, Contains-permutation}
use Rattle.std.proofs.lemmas.Map.Keys.{apart_from_distinct, IsDistinct-from_apart, IsDistinct-IsPermutation}
use Rattle.civl_cnf.specs.Literal.{Literal, opposite}
use Rattle.civl_units.specs.Propagation.{Fails}
use Rattle.civl_units.specs.Marks.{marked}
use Rattle.civl_rup.specs.Rup.{HasEachOnce}
use Rattle.civl_cdcl.specs.inner.Analysis.{HasOpposite, Teaches}

abbrev same_variable : Literal → Literal → Bool
same_variable l m = eqb l.variable m.variable

same_flips : (l m : Literal) → same_variable l m ≡ same_variable m l
same_flips l m = elim (eqb_tells l.variable m.variable) [
  | inl e ↦ ap (λ (x : ℕ). eqb x m.variable) e.1 ∙ ap (eqb m.variable) (sym e.1)
  | inr e ↦ elim (eqb_tells m.variable l.variable) [
    | inl f ↦ absurd (e.1 (sym f.1))
    | inr f ↦ e.0 ∙ sym f.0
  ]
]

apart_false : (l m : Literal) → (l.variable ≡ m.variable → ⊥) → same_variable l m ≡ false
apart_false l m differ = elim (eqb_tells l.variable m.variable) [ inl e ↦ absurd (differ e.1) | inr e ↦ e.0 ]

false_apart : (l m : Literal) → same_variable l m ≡ false → l.variable ≡ m.variable → ⊥
false_apart l m is e = elim (eqb_tells l.variable m.variable) [
  | inl same ↦ let clash = sym same.0 ∙ is in cc
  | inr differ ↦ differ.1 e
]

-- no variable stands twice, whatever the order
once_permuted : (old new : List Literal) → IsPermutation old new → HasEachOnce old → HasEachOnce new
once_permuted old new p once i j d less low =
    let apart = IsDistinct-from_apart same_variable old (λ a b e ab below. apart_false (get_or old a e) (get_or old b e) (once a b e ab below)) in
    false_apart (get_or new i d) (get_or new j d) (apart_from_distinct same_variable new i j d (IsDistinct-IsPermutation same_variable same_flips old new p apart) less low)

-- the opposite of a literal is still there
opposite_permuted : (old new : List Literal) (v : ℕ) (b : Bool) → IsPermutation old new → HasOpposite old v b → HasOpposite new v b
opposite_permuted old new v b p h =
    let l : Literal = record { variable = v; positive = not b } in
    let there : Contains old l = (h.0, h.1, h.2 l) in
    let found = Contains-permutation old new l p there in
    (found.0, found.1, λ d. get_or_default new found.0 d l found.1 ∙ found.2)

-- the clause in another order teaches the same
pub teaches_permuted : (marks : List (Option Bool)) (places : List ℕ) (clauses : List (List Literal)) (start : ℕ) (one : Literal) (seen : List Bool) (old new : List Literal) → IsPermutation old new → Teaches marks places clauses start one seen old → Teaches marks places clauses start one seen new
teaches_permuted marks places clauses start one seen old new p g = record {
  within = All-permutation (λ (l : Literal). l.variable < length marks) old new p g.within;
  once = once_permuted old new p g.once;
  fails = All-permutation (λ (l : Literal). Fails (marked marks) l × ((l ≡ opposite one) ⊎ (get_or places l.variable 0 < start))) old new p g.fails;
  has = opposite_permuted old new one.variable one.positive p g.has;
  covers = λ v b m. elim (g.covers v b m) [
    | inl there ↦ inl (opposite_permuted old new v b p there)
    | inr follows ↦ inr follows
  ];
}
