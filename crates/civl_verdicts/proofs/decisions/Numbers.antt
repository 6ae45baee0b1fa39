-- Each list of values has its number.
use Rattle.std.specs.Prelude.{nat_eq, nat_le, slice_index, get_or, drop, take, set, ◌++◌, ◌-◌, IsTrue, All}
use Rattle.std.proofs.Common.{◌≡◌, ◌∙◌, append_assoc, ℕ, zero, suc, ◌+◌, ◌*◌, ◌/◌, ◌%◌, ◌^◌, ◌<◌, Bool, true, false, List, [], ◌∷◌, length, refl, sym, ap, ap₂, subst, arith}
use Rattle.std.proofs.Math.Seq.{drop-cons}
use Rattle.std.proofs.Math.Nat.{mul_assoc, mod-lt}
use Rattle.std.proofs.lemmas.Nat.{mul-add-lt, div-mul-add, mod-mul-add, pow_pos, pow-add}
use Rattle.std.proofs.lemmas.Bool.{false≢true, leb-true, and_parts}
use Rattle.std.proofs.lemmas.List.Elements.{All-head, All-tail}
use Rattle.std.proofs.lemmas.List.{take_more_set}
use Rattle.civl_bits.specs.Row.{IsRow}
use Rattle.civl_bits.specs.declared.value.Value.{Value}
use Rattle.civl_bits.specs.declared.value.Value.TheVariants as value
use Rattle.civl_tree.specs.declared.expr.Sort.{Sort}
use Rattle.civl_tree.specs.declared.expr.Sort.TheVariants as sort
use Rattle.civl_tree.specs.rules.StoreSize.{bits_of}
use Rattle.civl_tree.specs.rules.Exprs.{is_width, is_index}
use Rattle.civl_firing.specs.values.Values.{HasSort, HaveSorts, is_sort}
use Rattle.civl_firing.proofs.values.Sorting.{bool_of, word_of, row_of, is_bool, is_a_word, is_a_row}
use Rattle.civl_symbolic.proofs.Widths.{narrow, wide}
use Rattle.civl_verdicts.specs.decisions.Numbered.{cells_numbered, value_numbered, values_numbered, bits_together, EachIsNumbered}
use Rattle.civl_firing.proofs.Having.{no_sorts, more_sorts, first_sort, rest_sorts}

-- ---- one sort more

drop_is : (ss : List Sort) (i : ℕ) (d : Sort) → i < length ss → drop i ss ≡ get_or ss i d ∷ drop (i + 1) ss
drop_is ss i d l = let one : suc i ≡ i + 1 = omega arith in drop-cons ss i d l ∙ ap (λ (n : ℕ). get_or ss i d ∷ drop n ss) one

-- the product of the counts, with one factor moved to the front
pub product_behind : (ss : List Sort) (i : ℕ) (d : Sort) (count : ℕ) → i < length ss → count * 2 ^ bits_together (drop i ss) ≡ (count * 2 ^ bits_of (get_or ss i d)) * 2 ^ bits_together (drop (i + 1) ss)
product_behind ss i d count l =
    let s = get_or ss i d in
    ap (λ (ts : List Sort). count * 2 ^ bits_together ts) (drop_is ss i d l) ∙ ap (λ (n : ℕ). count * n) (pow-add 2 (bits_of s) (bits_together (drop (i + 1) ss)))
    ∙ sym (mul_assoc count (2 ^ bits_of s) (2 ^ bits_together (drop (i + 1) ss)))

-- what is over the most stays so, times a power
pub over_stays : (most n k : ℕ) → most < n → most < n * 2 ^ k
over_stays most n k l = let p : 0 < 2 ^ k = pow_pos k in by (2 ^ k) p
  where
    by : (p : ℕ) → 0 < p → most < n * p
    by zero h = absurd (omega arith)
    by (suc p) h = omega (arith, l)

-- ---- the cells of a row

pub cells_long : (k width n : ℕ) → length (cells_numbered k width n) ≡ k
cells_long zero width n = refl
cells_long (suc k) width n = ap (λ (m : ℕ). suc m) (cells_long k width (n / 2 ^ width))

-- one cell more is written
pub cell_more : (k at width rest next value : ℕ) (cells all : List ℕ) → at < k → length cells ≡ k → value ≡ rest % 2 ^ width → next ≡ rest / 2 ^ width
    → take at cells ++ cells_numbered (k - at) width rest ≡ all → take (at + 1) (set cells at value) ++ cells_numbered (k - (at + 1)) width next ≡ all
cell_more k at width rest next value cells all l e v w h =
    let left : k - at ≡ suc (k - (at + 1)) = omega arith in
    let front : take (at + 1) (set cells at value) ≡ take at cells ++ value ∷ [] = take_more_set cells at value (omega (arith, e)) in
    ap₂ (λ (xs : List ℕ) (m : ℕ). xs ++ cells_numbered (k - (at + 1)) width m) front w
    ∙ append_assoc (take at cells) (value ∷ []) (cells_numbered (k - (at + 1)) width (rest / 2 ^ width))
    ∙ ap (λ (m : ℕ). take at cells ++ m ∷ cells_numbered (k - (at + 1)) width (rest / 2 ^ width)) v
    ∙ ap (λ (m : ℕ). take at cells ++ cells_numbered m width rest) (sym left)
    ∙ h

-- ---- numbers of lists of cells and of values

-- the number of these cells
abbrev number_of_cells : ℕ → List ℕ → ℕ
number_of_cells width [] = 0
number_of_cells width (c ∷ cs) = number_of_cells width cs * 2 ^ width + c

-- each of the first k cells is below two to the width
cells_are_numbered : (k width : ℕ) (cells : List ℕ) → length cells ≡ k → ((i : ℕ) → i < k → slice_index cells i < 2 ^ width)
    → (number_of_cells width cells < 2 ^ (width * k)) × (cells_numbered k width (number_of_cells width cells) ≡ cells)
cells_are_numbered zero width [] e h = (pow_pos (width * 0), refl)
cells_are_numbered zero width (c ∷ cs) e h = absurd (omega (arith, e))
cells_are_numbered (suc k) width [] e h = absurd (omega (arith, e))
cells_are_numbered (suc k) width (c ∷ cs) e h =
    let rest = cells_are_numbered k width cs (omega (arith, e)) (λ i l. h (suc i) (omega (arith, l))) in
    let m = number_of_cells width cs in
    let below : c < 2 ^ width = h 0 (omega arith) in
    let wide : width * suc k ≡ width + width * k = omega arith in
    let power : 2 ^ (width * suc k) ≡ 2 ^ width * 2 ^ (width * k) = ap (λ (n : ℕ). 2 ^ n) wide ∙ pow-add 2 width (width * k) in (
      subst (λ (n : ℕ). m * 2 ^ width + c < n) (sym power) (mul-add-lt m (2 ^ width) c (2 ^ (width * k)) rest.0 below),
      ap₂ (λ (x : ℕ) (xs : List ℕ). x ∷ xs) (mod-mul-add m (2 ^ width) c below) (ap (cells_numbered k width) (div-mul-add m (2 ^ width) c below) ∙ rest.1),
    )

value_is_numbered : (s : Sort) (v : Value) → HasSort v s → (n : ℕ) × (n < 2 ^ bits_of s) × (value_numbered s n ≡ v)
value_is_numbered sort.Bool v h = let b = bool_of v h in by b.0 b.1
  where
    by : (a : Bool) → v ≡ value.Bool a → (n : ℕ) × (n < 2 ^ bits_of sort.Bool) × (value_numbered sort.Bool n ≡ v)
    by true e = (1, omega arith, sym e)
    by false e = (0, omega arith, sym e)
value_is_numbered (sort.Word w) v h = let a = word_of v w h in (a.0, a.2.fits, sym a.1)
value_is_numbered (sort.Row i w) v h =
    let a = row_of v i w h in
    let r = a.0 in
    let row : IsRow r = a.2 in
    let size : length r.cells ≡ 2 ^ i = row.size ∙ ap (λ (n : ℕ). 2 ^ n) a.3 in
    let fits : (j : ℕ) → j < 2 ^ i → slice_index r.cells j < 2 ^ w = λ j l. subst (λ (n : ℕ). slice_index r.cells j < 2 ^ n) a.4 (row.fits j (subst (λ (n : ℕ). j < 2 ^ n) (sym a.3) l)) in
    let c = cells_are_numbered (2 ^ i) w r.cells size fits in (
      number_of_cells w r.cells,
      c.0,
      ap (λ (cs : List ℕ). value.Row (record { index = i; width = w; cells = cs })) c.1 ∙ ap₂ (λ (x y : ℕ). value.Row (record { index = x; width = y; cells = r.cells })) (sym a.3) (sym a.4) ∙ sym a.1,
    )

-- values of a number have their sorts
cells_fit : (k width n i : ℕ) → i < k → slice_index (cells_numbered k width n) i < 2 ^ width
cells_fit zero width n i l = absurd (omega arith)
cells_fit (suc k) width n zero l = mod-lt n (pow_pos width)
cells_fit (suc k) width n (suc i) l = cells_fit k width (n / 2 ^ width) i (omega (arith, l))

value_has_sort : (s : Sort) (n : ℕ) → IsTrue (is_sort s) → n < 2 ^ bits_of s → HasSort (value_numbered s n) s
value_has_sort sort.Bool n h l = is_bool (nat_eq n 1)
value_has_sort (sort.Word w) n h l = is_a_word w n (record { narrow = narrow w h; wide = wide w h; fits = l })
value_has_sort (sort.Row i w) n h l =
    let b = and_parts (is_index i) (is_width w) h in
    let d = and_parts (nat_le 1 i) (nat_le i 6) b.0 in
    is_a_row (record { index = i; width = w; cells = cells_numbered (2 ^ i) w n }) i w
    (record { low = leb-true 1 i d.0; high = leb-true i 6 d.1; narrow = narrow w b.1; wide = wide w b.1; size = cells_long (2 ^ i) w n; fits = λ j k. cells_fit (2 ^ i) w n j k }) refl refl

pub values_have_sorts : (ss : List Sort) (n : ℕ) → All (λ s. IsTrue (is_sort s)) ss → HaveSorts (values_numbered ss n) ss
values_have_sorts [] n h = no_sorts
values_have_sorts (s ∷ ss) n h =
    let In : Sort → Type 0 = λ t. IsTrue (is_sort t) in
    more_sorts (value_numbered s (n % 2 ^ bits_of s)) s (values_numbered ss (n / 2 ^ bits_of s)) ss (value_has_sort s (n % 2 ^ bits_of s) (All-head In s ss h) (mod-lt n (pow_pos (bits_of s)))) (values_have_sorts ss (n / 2 ^ bits_of s) (All-tail In s ss h))

pub each_is_numbered : EachIsNumbered
each_is_numbered [] [] h = (0, pow_pos 0, refl)
each_is_numbered [] (v ∷ vs) h = absurd (false≢true h.are)
each_is_numbered (s ∷ ss) [] h = absurd (false≢true h.are)
each_is_numbered (s ∷ ss) (v ∷ vs) h =
    let a = value_is_numbered s v (first_sort v s vs ss h) in
    let rest = each_is_numbered ss vs (rest_sorts v s vs ss h) in
    let b = bits_of s in (
      rest.0 * 2 ^ b + a.0,
      subst (λ (n : ℕ). rest.0 * 2 ^ b + a.0 < n) (sym (pow-add 2 b (bits_together ss))) (mul-add-lt rest.0 (2 ^ b) a.0 (2 ^ bits_together ss) rest.1 a.1),
      ap₂ (λ (x : Value) (xs : List Value). x ∷ xs) (ap (value_numbered s) (mod-mul-add rest.0 (2 ^ b) a.0 a.1) ∙ a.2) (ap (values_numbered ss) (div-mul-add rest.0 (2 ^ b) a.0 a.1) ∙ rest.2),
    )

-- the same of the cells behind the write
pub cells_stay : (k at width rest next value : ℕ) (cells new all : List ℕ) → at < k → length cells ≡ k → new ≡ set cells at value → value ≡ rest % 2 ^ width → next ≡ rest / 2 ^ width
    → take at cells ++ cells_numbered (k - at) width rest ≡ all → take (at + 1) new ++ cells_numbered (k - (at + 1)) width next ≡ all
cells_stay k at width rest next value cells new all l e n v w h =
    ap (λ (xs : List ℕ). take (at + 1) xs ++ cells_numbered (k - (at + 1)) width next) n ∙ cell_more k at width rest next value cells all l e v w h
