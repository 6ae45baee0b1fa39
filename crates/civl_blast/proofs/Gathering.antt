-- Values whose rows have the cells that other variables stand for.
use Rattle.std.specs.Prelude.{slice_get, nat_eq, IsTrue, if◌then◌else◌}
use Rattle.std.specs.List.{range_with_len}
use Rattle.std.proofs.Common.{◌≡◌, ℕ, zero, suc, ◌^◌, ◌%◌, ◌<◌, List, [], ◌∷◌, map, refl, sym, ◌∙◌, ap, subst, inl, inr, arith, true, ◌&&◌, Some}
use Rattle.std.proofs.Math.Nat.{mod-eq_of_lt}
use Rattle.std.proofs.lemmas.Nat.{mod_below, pow_pos}
use Rattle.std.proofs.lemmas.Bool.{cases_Bool, false≢true, cond-true, cond-false, eq-eqb, eqb-true, and_from, and_parts}
use Rattle.std.proofs.lemmas.List.FromFn.{length-map-range_with_len, get_or-map-range_with_len}
use Rattle.civl_bits.specs.Row.{Cells, IsRow}
use Rattle.civl_bits.specs.declared.value.Value.{Value}
use Rattle.civl_bits.specs.declared.value.Value.TheVariants as value
use Rattle.civl_tree.specs.declared.expr.Sort.{Sort}
use Rattle.civl_tree.specs.declared.expr.Sort.TheVariants as sort
use Rattle.civl_firing.specs.values.Values.{HasSort}
use Rattle.civl_firing.proofs.values.Sorting.{word_of, row_of}
use Rattle.civl_blast.specs.reach.Reaching.{is_plain}
use Rattle.civl_blast.specs.rows.Cells.{cell_of}
use Rattle.civl_blast.specs.declared.rows.flat.Cell.{Cell}

-- the number of a word
abbrev number_in : Value → ℕ
number_in (value.Word w) = w.1
number_in (value.Bool b) = 0
number_in (value.Row r) = 0

-- the number that stands for a variable's cell
abbrev number_for : List Cell → (ℕ → Value) → ℕ → ℕ → ℕ
number_for [] env k c = 0
number_for (e ∷ es) env k c = if nat_eq e.variable k && nat_eq e.cell c then number_in (env e.number) else number_for es env k c

-- a row with the cells that other variables stand for
abbrev gathered : List Cell → (ℕ → Value) → ℕ → Value → Value
gathered es env k (value.Bool b) = value.Bool b
gathered es env k (value.Word w) = value.Word w
gathered es env k (value.Row r) = value.Row (record { index = r.index; width = r.width; cells = map (λ c. number_for es env k c % 2 ^ r.width) (range_with_len 0 (2 ^ r.index)) })

abbrev pub gather : List Cell → (ℕ → Value) → ℕ → Value
gather es env k = gathered es env k (env k)

gathered_row : (es : List Cell) (env : ℕ → Value) (k : ℕ) (r : Cells) → IsRow r → IsRow (record { index = r.index; width = r.width; cells = map (λ c. number_for es env k c % 2 ^ r.width) (range_with_len 0 (2 ^ r.index)) })
gathered_row es env k r h = record {
  low = h.low;
  high = h.high;
  narrow = h.narrow;
  wide = h.wide;
  size = length-map-range_with_len (λ c. number_for es env k c % 2 ^ r.width) 0 (2 ^ r.index);
  fits = λ i l.
      let P : ℕ → Type 0 = λ n. n < 2 ^ r.width in
      subst P (sym (get_or-map-range_with_len (λ c. number_for es env k c % 2 ^ r.width) 0 (2 ^ r.index) i i 0 l (omega arith))) (mod_below (number_for es env k i) (2 ^ r.width) (pow_pos r.width));
}

gathered_sort : (es : List Cell) (env : ℕ → Value) (k : ℕ) (x : Value) (s : Sort) → HasSort x s → HasSort (gathered es env k x) s
gathered_sort es env k (value.Bool b) s h = h
gathered_sort es env k (value.Word w) s h = h
gathered_sort es env k (value.Row r) sort.Bool h = absurd (false≢true h.1)
gathered_sort es env k (value.Row r) (sort.Word w) h = absurd (false≢true h.1)
gathered_sort es env k (value.Row r) (sort.Row i w) h = (gathered_row es env k r h.0, h.1)

pub gather_sort : (es : List Cell) (env : ℕ → Value) (k : ℕ) (s : Sort) → HasSort (env k) s → HasSort (gather es env k) s
gather_sort es env k s h = gathered_sort es env k (env k) s h

gathered_plain : (es : List Cell) (env : ℕ → Value) (k : ℕ) (x : Value) (s : Sort) → HasSort x s → IsTrue (is_plain (Some s)) → gathered es env k x ≡ x
gathered_plain es env k (value.Bool b) s h p = refl
gathered_plain es env k (value.Word w) s h p = refl
gathered_plain es env k (value.Row r) sort.Bool h p = absurd (false≢true h.1)
gathered_plain es env k (value.Row r) (sort.Word w) h p = absurd (false≢true h.1)
gathered_plain es env k (value.Row r) (sort.Row i w) h p = absurd (false≢true p)

-- bools and words stay
pub gather_plain : (es : List Cell) (env : ℕ → Value) (k : ℕ) (s : Sort) → HasSort (env k) s → IsTrue (is_plain (Some s)) → gather es env k ≡ env k
gather_plain es env k s h p = gathered_plain es env k (env k) s h p

-- entries of one cell have one number
abbrev pub HasOnce : List Cell → Type 0
HasOnce es = (p q : ℕ) (d e : Cell) → slice_get es p ≡ Some d → slice_get es q ≡ Some e → d.variable ≡ e.variable → d.cell ≡ e.cell → d.number ≡ e.number

number_found : (es : List Cell) (env : ℕ → Value) (p : ℕ) (e : Cell) → HasOnce es → slice_get es p ≡ Some e → number_for es env e.variable e.cell ≡ number_in (env e.number)
number_found [] env p e once g = absurd cc
number_found (c ∷ cs) env zero e once g =
    let same : c ≡ e = cc in
    let hit : (nat_eq c.variable e.variable && nat_eq c.cell e.cell) ≡ true = and_from (nat_eq c.variable e.variable) (nat_eq c.cell e.cell) (eq-eqb c.variable e.variable (ap (λ (x : Cell). x.variable) same)) (eq-eqb c.cell e.cell (ap (λ (x : Cell). x.cell) same)) in
    cond-true (nat_eq c.variable e.variable && nat_eq c.cell e.cell) (number_in (env c.number)) (number_for cs env e.variable e.cell) hit ∙ ap (λ (x : Cell). number_in (env x.number)) same
number_found (c ∷ cs) env (suc p) e once g = elim (cases_Bool (nat_eq c.variable e.variable && nat_eq c.cell e.cell)) [
  | inl on ↦
      let parts = and_parts (nat_eq c.variable e.variable) (nat_eq c.cell e.cell) on in
      cond-true (nat_eq c.variable e.variable && nat_eq c.cell e.cell) (number_in (env c.number)) (number_for cs env e.variable e.cell) on
      ∙ ap (λ n. number_in (env n)) (once 0 (suc p) c e refl g (eqb-true c.variable e.variable parts.0) (eqb-true c.cell e.cell parts.1))
  | inr off ↦
      cond-false (nat_eq c.variable e.variable && nat_eq c.cell e.cell) (number_in (env c.number)) (number_for cs env e.variable e.cell) off
      ∙ number_found cs env p e (λ a b d f x y. once (suc a) (suc b) d f x y) g
]

-- the cell of the gathered row is the value of the variable that stands for it
pub gather_cell : (es : List Cell) (env : ℕ → Value) (p : ℕ) (e : Cell) (index width : ℕ) → HasOnce es → slice_get es p ≡ Some e → e.cell < 2 ^ index → HasSort (env e.variable) (sort.Row index width) → HasSort (env e.number) (sort.Word width) → cell_of (gather es env e.variable) e.cell ≡ env e.number
gather_cell es env p e index width once g l row word =
    let r = row_of (env e.variable) index width row in
    let w = word_of (env e.number) width word in
    let here : number_for es env e.variable e.cell ≡ w.0 = number_found es env p e once g ∙ ap number_in w.1 in
    let f : ℕ → ℕ = λ c. number_for es env e.variable c % 2 ^ r.0.width in
    let in_width : w.0 < 2 ^ width = w.2.fits in
    ap (λ x. cell_of (gathered es env e.variable x) e.cell) r.1
    ∙ ap (λ n. value.Word (r.0.width, n)) (get_or-map-range_with_len f 0 (2 ^ r.0.index) e.cell e.cell 0 (subst (λ (i : ℕ). e.cell < 2 ^ i) (sym r.3) l) (omega arith) ∙ ap (λ n. n % 2 ^ r.0.width) here ∙ ap (λ i. w.0 % 2 ^ i) r.4 ∙ mod-eq_of_lt in_width)
    ∙ ap (λ i. value.Word (i, w.0)) r.4
    ∙ sym w.1
