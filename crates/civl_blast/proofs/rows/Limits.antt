-- What the limits of sorts say of their cells.
use Rattle.std.proofs.Common.{◌≡◌, ℕ, zero, suc, ◌*◌, ◌^◌, ◌<◌, ◌≤◌, true, leb, refl, arith, Some}
use Rattle.std.proofs.lemmas.Bool.{leb-true, and_parts}
use Rattle.std.proofs.lemmas.Nat.{pow_pos}
use Rattle.std.proofs.Math.Nat.{pow-suc, mul_comm}
use Rattle.civl_bits.specs.Word.{IsWord}
use Rattle.civl_tree.specs.declared.expr.Sort.{Sort}
use Rattle.civl_tree.specs.declared.expr.Sort.TheVariants as sort
use Rattle.civl_tree.specs.rules.Exprs.{is_width, is_index}
use Rattle.civl_firing.specs.values.Values.{is_sort}
use Rattle.civl_firing.specs.values.Weights.{bits_in}
use Rattle.civl_blast.specs.rows.Cells.{cells_in, cell_sort}

narrow : (w : ℕ) → is_width w ≡ true → 1 ≤ w
narrow w h = leb-true 1 w (and_parts (leb 1 w) (leb w 32) h).0

pub cell_bits : (s : Sort) → is_sort s ≡ true → 1 ≤ bits_in (cell_sort (Some s))
cell_bits sort.Bool h = omega arith
cell_bits (sort.Word w) h = narrow w h
cell_bits (sort.Row k w) h = narrow w (and_parts (is_index k) (is_width w) h).1

pub index_bits : (k w : ℕ) → is_sort (sort.Row k w) ≡ true → (1 ≤ k) × (k ≤ 6)
index_bits k w h =
    let b = and_parts (leb 1 k) (leb k 6) (and_parts (is_index k) (is_width w) h).0 in
    (leb-true 1 k b.0, leb-true k 6 b.1)

pub index_word : (k w : ℕ) → is_sort (sort.Row k w) ≡ true → IsWord k 0
index_word k w h = let b = index_bits k w h in record { narrow = b.0; wide = omega arith; fits = pow_pos k }

pub some_cells : (s : Sort) → 0 < cells_in (Some s)
some_cells sort.Bool = omega arith
some_cells (sort.Word w) = omega arith
some_cells (sort.Row k w) = pow_pos k

pub all_bits : (s : Sort) → cells_in (Some s) * bits_in (cell_sort (Some s)) ≡ bits_in (Some s)
all_bits sort.Bool = refl
all_bits (sort.Word w) = omega arith
all_bits (sort.Row k w) = mul_comm (2 ^ k) w

pub doubled : (k : ℕ) → 2 * k ≤ 2 ^ k
doubled zero = omega arith
doubled (suc zero) = omega arith
doubled (suc (suc k)) =
    let h = doubled (suc k) in
    let e : 2 ^ suc (suc k) ≡ 2 ^ suc k * 2 = pow-suc 2 (suc k) in
    omega arith
