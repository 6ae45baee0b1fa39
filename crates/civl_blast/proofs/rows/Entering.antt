-- The entries for the cells of the variables that are rows.
use Rattle.std.proofs.Common.{◌≡◌, ◌⊎◌, ℕ, ◌+◌, ◌-◌, ◌^◌, ◌<◌, ◌≤◌, Bool, true, false, List, [], ◌++◌, length, refl, sym, ap, ◌∙◌, subst, inl, inr, arith, Some, IsTrue, append-nil}
use Rattle.std.specs.Prelude.{slice_get}
use Rattle.std.proofs.lemmas.Bool.{false≢true, cases_lt, cases_eq}
use Rattle.std.proofs.lemmas.Option.{slice_get_within, same_Some}
use Rattle.civl_tree.specs.declared.expr.Sort.{Sort}
use Rattle.civl_tree.specs.declared.expr.Sort.TheVariants as sort
use Rattle.civl_terms.specs.declared.node.Node.{Node}
use Rattle.civl_terms.specs.declared.node.Node.TheVariants.{Constant, Variable, One as Once, Two as Twice, Pick, Get, Set, Fill, Slice, Widen, Join}
use Rattle.civl_terms.specs.Graphs.{IsGraph, IsDistinct}
use Rattle.civl_blast.specs.rows.Cells.{next_number}
use Rattle.civl_blast.specs.reach.Marks.{marked}
use Rattle.civl_blast.specs.inner.rows.Expanding.{row_entries, entries_of}
use Rattle.civl_blast.specs.declared.rows.flat.Cell.{Cell}
use Rattle.civl_blast.proofs.rows.Blocks.{entry, get-left, get-right, in_block, of_block}

-- ---- a node is a variable that is a row, or makes no entries

abbrev pub row_variable : ℕ → ℕ → ℕ → Node
row_variable k index width = Variable k (sort.Row index width)

pub record IsRowVariable (n : Node) : Type 0 where
  pub variable : ℕ
  pub index : ℕ
  pub width : ℕ
  pub is : n ≡ row_variable variable index width

pub record MakesNone (n : Node) : Type 0 where
  pub none : (first : ℕ) → entries_of n first ≡ []
  pub other : (k index width : ℕ) → n ≡ row_variable k index width → ⊥

abbrev is_row_variable : Node → Bool
is_row_variable (Variable k (sort.Row index width)) = true
is_row_variable _ = false

not_row : (n : Node) → is_row_variable n ≡ false → (k index width : ℕ) → n ≡ row_variable k index width → ⊥
not_row n f k index width e = false≢true (sym f ∙ ap is_row_variable e)

pub kinds : (n : Node) → IsRowVariable n ⊎ MakesNone n
kinds (Variable k (sort.Row index width)) = inl (record { variable = k; index = index; width = width; is = refl })
kinds (Variable k sort.Bool) = inr (record { none = λ f. refl; other = not_row (Variable k sort.Bool) refl })
kinds (Variable k (sort.Word w)) = inr (record { none = λ f. refl; other = not_row (Variable k (sort.Word w)) refl })
kinds (Constant v) = inr (record { none = λ f. refl; other = not_row (Constant v) refl })
kinds (Once op a) = inr (record { none = λ f. refl; other = not_row (Once op a) refl })
kinds (Twice op a b) = inr (record { none = λ f. refl; other = not_row (Twice op a b) refl })
kinds (Pick c a b) = inr (record { none = λ f. refl; other = not_row (Pick c a b) refl })
kinds (Get a b) = inr (record { none = λ f. refl; other = not_row (Get a b) refl })
kinds (Set c a b) = inr (record { none = λ f. refl; other = not_row (Set c a b) refl })
kinds (Fill i a) = inr (record { none = λ f. refl; other = not_row (Fill i a) refl })
kinds (Slice a i j) = inr (record { none = λ f. refl; other = not_row (Slice a i j) refl })
kinds (Widen a w) = inr (record { none = λ f. refl; other = not_row (Widen a w) refl })
kinds (Join a b) = inr (record { none = λ f. refl; other = not_row (Join a b) refl })

-- ---- the entries of the marked nodes before a place

pub record EntriesTo (source : List Node) (marks : List Bool) (at : ℕ) (cells : List Cell) : Type 0 where
  pub each : (i k index width c : ℕ) → i < at → IsTrue (marked marks i) → slice_get source i ≡ Some (row_variable k index width) → c < 2 ^ index → (p : ℕ) × (slice_get cells p ≡ Some (entry k c (next_number source + p)))
  pub only : (p : ℕ) (e : Cell) → slice_get cells p ≡ Some e → (i index width : ℕ) × (i < at) × IsTrue (marked marks i) × (slice_get source i ≡ Some (row_variable e.variable index width)) × (e.cell < 2 ^ index)
  pub numbers : (p : ℕ) (e : Cell) → slice_get cells p ≡ Some e → e.number ≡ next_number source + p
  pub once : (p q : ℕ) (d e : Cell) → slice_get cells p ≡ Some d → slice_get cells q ≡ Some e → d.variable ≡ e.variable → d.cell ≡ e.cell → p ≡ q

nothing_at : (p : ℕ) (e : Cell) (xs : List Cell) → xs ≡ [] → slice_get xs p ≡ Some e → ⊥
nothing_at p e xs z h = absurd (omega (arith, slice_get_within xs p e h, ap length z))

pub entries_none : (source : List Node) (marks : List Bool) → EntriesTo source marks 0 []
entries_none source marks = record {
  each = λ i k index width c h. absurd (omega arith);
  only = λ p e h. absurd (nothing_at p e [] refl h);
  numbers = λ p e h. absurd (nothing_at p e [] refl h);
  once = λ p q d e h. absurd (nothing_at p d [] refl h);
}

-- a node that isn't marked, or makes none
pub entries_skip : {source : List Node} {marks : List Bool} {at : ℕ} {cells : List Cell} → EntriesTo source marks at cells → ((k index width : ℕ) → IsTrue (marked marks at) → slice_get source at ≡ Some (row_variable k index width) → ⊥) → EntriesTo source marks (at + 1) cells
entries_skip {source} {marks} {at} {cells} m never = record {
  each = λ i k index width c h y e l. elim (cases_eq i at) [
    | inl q ↦ absurd (never k index width (ap (marked marks) (sym q) ∙ y) (ap (slice_get source) (sym q) ∙ e))
    | inr d ↦ m.each i k index width c (omega arith) y e l
  ];
  only = λ p e h. let o = m.only p e h in (o.0, o.1, o.2, omega (arith, o.3), o.4, o.5, o.6);
  numbers = m.numbers;
  once = m.once;
}

row_parts : (k index width j i w : ℕ) → row_variable k index width ≡ row_variable j i w → (k ≡ j) × (index ≡ i)
row_parts k index width j i w e = (cc, cc)

-- a variable that is a row
pub entries_more : {source : List Node} {marks : List Bool} {at : ℕ} {cells after : List Cell} (variable index width : ℕ) → IsGraph source → IsDistinct source → EntriesTo source marks at cells → IsTrue (marked marks at) → slice_get source at ≡ Some (row_variable variable index width) → after ≡ cells ++ row_entries variable (next_number source + length cells) (2 ^ index) → EntriesTo source marks (at + 1) after
entries_more {source} {marks} {at} {cells} {after} variable index width graph distinct m marked_at node eq =
    let f = next_number source + length cells in
    let block = row_entries variable f (2 ^ index) in
    let P : List Cell → Type 0 = λ xs. EntriesTo source marks (at + 1) xs in
    let behind : (p : ℕ) (e : Cell) → length cells ≤ p → slice_get (cells ++ block) p ≡ Some e → (p - length cells < 2 ^ index) × (entry variable (p - length cells) (f + (p - length cells)) ≡ e) =
    λ p e l h. of_block variable f (2 ^ index) (p - length cells) e (sym (get-right cells block p (p - length cells) (omega arith)) ∙ h) in
    let front : (p : ℕ) (e : Cell) → p < length cells → slice_get (cells ++ block) p ≡ Some e → slice_get cells p ≡ Some e =
    λ p e l h. sym (get-left cells block p l) ∙ h in
    let apart : (p q : ℕ) (d e : Cell) → p < length cells → length cells ≤ q → slice_get (cells ++ block) p ≡ Some d → slice_get (cells ++ block) q ≡ Some e → d.variable ≡ e.variable → ⊥ =
    λ p q d e l k h g v.
    let o = m.only p d (front p d l h) in
    let b = behind q e k g in
    let same : d.variable ≡ variable = v ∙ sym (ap (λ (x : Cell). x.variable) b.1) in
    let theirs : slice_get source o.0 ≡ Some (row_variable variable o.1 o.2) = o.5 ∙ ap (λ (x : ℕ). Some (row_variable x o.1 o.2)) same in
    let sorts : sort.Row o.1 o.2 ≡ sort.Row index width = graph.variables at (row_variable variable index width) node o.0 (sort.Row o.1 o.2) theirs in
    let there : slice_get source o.0 ≡ Some (row_variable variable index width) = theirs ∙ ap (λ (s : Sort). Some (Variable variable s)) sorts in
    absurd (omega (arith, distinct o.0 at (row_variable variable index width) there node, o.3)) in
    subst P (sym eq) (record {
      each = λ i k j w c h y e l. elim (cases_eq i at) [
        | inl q ↦
            let r = row_parts variable index width k j w (same_Some (row_variable variable index width) (row_variable k j w) (sym node ∙ ap (slice_get source) (sym q) ∙ e)) in (
              length cells + c,
              get-right cells block (length cells + c) c refl
                  ∙ in_block variable f (2 ^ index) c (omega (arith, ap (λ (x : ℕ). 2 ^ x) r.1))
                  ∙ ap (λ (x : ℕ). Some (entry x c (f + c))) r.0
                  ∙ ap (λ (x : ℕ). Some (entry k c x)) (omega arith),
            )
        | inr d ↦
            let o = m.each i k j w c (omega arith) y e l in
            (o.0, get-left cells block o.0 (slice_get_within cells o.0 (entry k c (next_number source + o.0)) o.1) ∙ o.1)
      ];
      only = λ p e h. elim (cases_lt p (length cells)) [
        | inl l ↦ let o = m.only p e (front p e l h) in (o.0, o.1, o.2, omega (arith, o.3), o.4, o.5, o.6)
        | inr l ↦
            let b = behind p e l h in
            let v : variable ≡ e.variable = ap (λ (x : Cell). x.variable) b.1 in
            let c : p - length cells ≡ e.cell = ap (λ (x : Cell). x.cell) b.1 in
            (at, index, width, omega arith, marked_at, node ∙ ap (λ (x : ℕ). Some (row_variable x index width)) v, omega (arith, b.0, c))
      ];
      numbers = λ p e h. elim (cases_lt p (length cells)) [
        | inl l ↦ m.numbers p e (front p e l h)
        | inr l ↦ let b = behind p e l h in sym (ap (λ (x : Cell). x.number) b.1) ∙ omega arith
      ];
      once = λ p q d e h g v c. elim (cases_lt p (length cells)) [
        | inl l ↦ elim (cases_lt q (length cells)) [
          | inl k ↦ m.once p q d e (front p d l h) (front q e k g) v c
          | inr k ↦ absurd (apart p q d e l k h g v)
        ]
        | inr l ↦ elim (cases_lt q (length cells)) [
          | inl k ↦ absurd (apart q p e d k l g h (sym v))
          | inr k ↦
              let b = behind p d l h in
              let a = behind q e k g in
              let x : p - length cells ≡ d.cell = ap (λ (z : Cell). z.cell) b.1 in
              let y : q - length cells ≡ e.cell = ap (λ (z : Cell). z.cell) a.1 in
              omega (arith, x, y, c)
        ]
      ];
    })

-- a marked node, whatever it is
pub entries_step : {source : List Node} {marks : List Bool} {at : ℕ} {cells after : List Cell} (n : Node) → IsGraph source → IsDistinct source → EntriesTo source marks at cells → IsTrue (marked marks at) → slice_get source at ≡ Some n → after ≡ cells ++ entries_of n (next_number source + length cells) → EntriesTo source marks (at + 1) after
entries_step {source} {marks} {at} {cells} {after} n graph distinct m y e eq = elim (kinds n) [
  | inl r ↦
      entries_more r.variable r.index r.width graph distinct m y (e ∙ ap (λ (x : Node). Some x) r.is) (eq ∙ ap (λ (x : Node). cells ++ entries_of x (next_number source + length cells)) r.is)
  | inr r ↦
      let P : List Cell → Type 0 = λ xs. EntriesTo source marks (at + 1) xs in
      let same : after ≡ cells = eq ∙ ap (λ (xs : List Cell). cells ++ xs) (r.none (next_number source + length cells)) ∙ append-nil cells in
      subst P (sym same) (entries_skip m (λ k index width z f. r.other k index width (same_Some n (row_variable k index width) (sym e ∙ f))))
]
