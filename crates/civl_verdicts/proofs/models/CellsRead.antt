-- A cell that is read at a place, and the other cells of its value.
use Rattle.std.proofs.Common.{◌≡◌, ◌≢◌, ◌∙◌, ℕ, suc, ◌+◌, ◌*◌, ◌^◌, ◌<◌, ◌≤◌, Bool, sym, ap, ap₂, subst, arith, Some}
use Rattle.std.specs.Int.{bit_at}
use Rattle.std.proofs.lemmas.List.{get_or-set_same, get_or-set_other}
use Rattle.std.proofs.Math.Pow.{pow_mono}
use Rattle.std.proofs.lemmas.Nat.{pow-add}
use Rattle.std.proofs.lemmas.Nat.Bits.{same_from_bits_below}
use Rattle.civl_bits.specs.Word.{IsWord}
use Rattle.civl_bits.specs.Row.{Cells, IsRow, cell_at, row_with}
use Rattle.civl_bits.specs.declared.value.Value.{Value}
use Rattle.civl_bits.specs.declared.value.Value.TheVariants as value
use Rattle.civl_bits.proofs.Bits.{number_of_bits-lt, bit_at-number_of_bits}
use Rattle.civl_bits.proofs.Cells.{IsRow-with}
use Rattle.civl_tree.specs.declared.expr.Sort.{Sort}
use Rattle.civl_tree.specs.declared.expr.Sort.TheVariants as sort
use Rattle.civl_firing.specs.values.Values.{HasSort}
use Rattle.civl_firing.proofs.values.Sorting.{bool_of, word_of, row_of, is_bool, is_a_word, is_a_row}
use Rattle.civl_cnf.specs.Gates.{bit}
use Rattle.civl_symbolic.specs.Symbolic.{Shows}
use Rattle.civl_blast.specs.rows.Cells.{cell_of, cells_in}
use Rattle.civl_blast.proofs.Reading.{small_bits}
use Rattle.civl_verdicts.specs.models.Reading.{number_from, with_cell}

pub number_fits : (v : ℕ → Bool) (first width : ℕ) → number_from v first width < 2 ^ width
number_fits v first width = number_of_bits-lt width (λ j. bit (v (first + j))) (small_bits v first)

-- one bit more fits a number of 32 bits
pub room : (v : ℕ → Bool) (first at : ℕ) → at < 32 → number_from v first at + 2 ^ at < 2 ^ 32
room v first at l =
    let below : number_from v first at + 2 ^ at < 2 ^ suc at = add-lt-pow' at (number_fits v first at) in
    let most : 2 ^ suc at ≤ 2 ^ 32 = pow_mono {i = suc at} {j = 32} (omega (arith, l)) in
    omega (arith, below, most)
  where
    add-lt-pow' : (k : ℕ) {a : ℕ} → a < 2 ^ k → a + 2 ^ k < 2 ^ suc k
    add-lt-pow' k {a} h = let one : 1 + k ≡ suc k = omega arith in let two : 2 ^ suc k ≡ 2 * 2 ^ k = ap (λ (n : ℕ). 2 ^ n) (sym one) ∙ pow-add 2 1 k in omega (arith, h, two)

pub is_word : (v : ℕ → Bool) (first width n : ℕ) → 1 ≤ width → width ≤ 32 → n ≡ number_from v first width → IsWord width n
is_word v first width n low high e = record { narrow = low; wide = high; fits = subst (λ (m : ℕ). m < 2 ^ width) (sym e) (number_fits v first width) }

-- bits that show a number are read as this number
number_shown : (v : ℕ → Bool) (first width n : ℕ) → n < 2 ^ width → ((j : ℕ) → j < width → bit (v (first + j)) ≡ bit_at n j) → number_from v first width ≡ n
number_shown v first width n l h =
    same_from_bits_below width (number_from v first width) n (number_fits v first width) l
    (λ i k. bit_at-number_of_bits width (λ j. bit (v (first + j))) (small_bits v first) i k ∙ h i k)

word_shown : (v : ℕ → Bool) (first width n : ℕ) → n < 2 ^ width → Shows v first (value.Word (width, n)) → value.Word (width, number_from v first width) ≡ value.Word (width, n)
word_shown v first width n l h = ap (λ (m : ℕ). value.Word (width, m)) (number_shown v first width n l h)

row_shown : (v : ℕ → Bool) (first c : ℕ) (r q : Cells) → IsRow r → IsRow q → r.index ≡ q.index → r.width ≡ q.width → c < 2 ^ r.index → Shows v first (cell_of (value.Row q) c) → cell_of (value.Row (row_with r c (number_from v first r.width))) c ≡ cell_of (value.Row q) c
row_shown v first c r q hr hq i w l h =
    let same = get_or-set_same r.cells c (number_from v first r.width) 0 (omega (arith, hr.size)) in
    let below : c < 2 ^ q.index = subst (λ (n : ℕ). c < 2 ^ n) i l in
    ap₂ (λ (a b : ℕ). value.Word (a, b)) w (same ∙ ap (number_from v first) w) ∙ word_shown v first q.width (cell_at q c) (hq.fits c below) h

-- ---- the cell that is read is the one that is shown

pub cell_read : (v : ℕ → Bool) (first : ℕ) (s : Sort) (x y : Value) (c : ℕ) → HasSort x s → HasSort y s → c < cells_in (Some s) → Shows v first (cell_of y c) → cell_of (with_cell v first x c) c ≡ cell_of y c
cell_read v first sort.Bool x y c hx hy l h =
    let a = bool_of x hx in
    let b = bool_of y hy in
    let shown : v first ≡ b.0 = subst (λ (z : Value). Shows v first (cell_of z c)) b.1 h in
    ap (λ (z : Value). cell_of (with_cell v first z c) c) a.1 ∙ ap (λ (t : Bool). value.Bool t) shown ∙ sym (ap (λ (z : Value). cell_of z c) b.1)
cell_read v first (sort.Word w) x y c hx hy l h =
    let a = word_of x w hx in
    let b = word_of y w hy in
    let shown = subst (λ (z : Value). Shows v first (cell_of z c)) b.1 h in
    ap (λ (z : Value). cell_of (with_cell v first z c) c) a.1 ∙ word_shown v first w b.0 (b.2.fits) shown ∙ sym (ap (λ (z : Value). cell_of z c) b.1)
cell_read v first (sort.Row i w) x y c hx hy l h =
    let a = row_of x i w hx in
    let b = row_of y i w hy in
    let shown = subst (λ (z : Value). Shows v first (cell_of z c)) b.1 h in
    let low : c < 2 ^ (a.0).index = subst (λ (n : ℕ). c < 2 ^ n) (sym a.3) l in
    ap (λ (z : Value). cell_of (with_cell v first z c) c) a.1 ∙ row_shown v first c a.0 b.0 a.2 b.2 (a.3 ∙ sym b.3) (a.4 ∙ sym b.4) low shown ∙ sym (ap (λ (z : Value). cell_of z c) b.1)

-- ---- the others stay

pub others_stay : (v : ℕ → Bool) (first : ℕ) (s : Sort) (x : Value) (c d : ℕ) → HasSort x s → c < cells_in (Some s) → d < cells_in (Some s) → d ≢ c → cell_of (with_cell v first x c) d ≡ cell_of x d
others_stay v first sort.Bool x c d hx l k ne = let same : d ≡ c = omega (arith, l, k) in absurd (ne same)
others_stay v first (sort.Word w) x c d hx l k ne = let same : d ≡ c = omega (arith, l, k) in absurd (ne same)
others_stay v first (sort.Row i w) x c d hx l k ne =
    let a = row_of x i w hx in
    let same = get_or-set_other (a.0).cells c d (number_from v first (a.0).width) 0 ne in
    ap (λ (z : Value). cell_of (with_cell v first z c) d) a.1 ∙ ap (λ (n : ℕ). value.Word ((a.0).width, n)) same ∙ sym (ap (λ (z : Value). cell_of z d) a.1)

-- ---- the sort stays

pub keeps_sort : (v : ℕ → Bool) (first : ℕ) (s : Sort) (x : Value) (c : ℕ) → HasSort x s → c < cells_in (Some s) → HasSort (with_cell v first x c) s
keeps_sort v first sort.Bool x c hx l =
    let a = bool_of x hx in
    subst (λ (z : Value). HasSort (with_cell v first z c) sort.Bool) (sym a.1) (is_bool (v first))
keeps_sort v first (sort.Word w) x c hx l =
    let a = word_of x w hx in
    let is : IsWord w (number_from v first w) = record { narrow = a.2.narrow; wide = a.2.wide; fits = number_fits v first w } in
    subst (λ (z : Value). HasSort (with_cell v first z c) (sort.Word w)) (sym a.1) (is_a_word w (number_from v first w) is)
keeps_sort v first (sort.Row i w) x c hx l =
    let a = row_of x i w hx in
    let low : c < 2 ^ (a.0).index = subst (λ (n : ℕ). c < 2 ^ n) (sym a.3) l in
    subst (λ (z : Value). HasSort (with_cell v first z c) (sort.Row i w)) (sym a.1)
    (is_a_row (row_with a.0 c (number_from v first (a.0).width)) i w (IsRow-with a.0 c (number_from v first (a.0).width) a.2 low (number_fits v first (a.0).width)) a.3 a.4)
