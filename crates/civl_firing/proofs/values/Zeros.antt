-- Zeros have their sorts.
use Rattle.std.proofs.Common.{ℕ, ◌≡◌, ◌≤◌, ◌^◌, Bool, true, false, ◌&&◌, refl, arith}
use Rattle.std.specs.Prelude.{nat_le, if◌then◌else◌, replicate, slice_index}
use Rattle.std.proofs.lemmas.Bool.{false≢true, leb-true, eq-eqb, and_parts}
use Rattle.std.proofs.lemmas.Nat.{pow_pos}
use Rattle.std.proofs.lemmas.List.{length-replicate, get_or-replicate}
use Rattle.civl_bits.specs.Row.{filled_row}
use Rattle.civl_bits.specs.declared.value.Value.{Value}
use Rattle.civl_bits.specs.declared.value.Value.TheVariants as value
use Rattle.civl_tree.specs.declared.expr.Sort.{Sort}
use Rattle.civl_tree.specs.declared.expr.Sort.TheVariants as sort
use Rattle.civl_firing.specs.values.Operators.{nothing}
use Rattle.civl_tree.specs.rules.Exprs.{is_width, is_index}
use Rattle.civl_firing.specs.values.Values.{HasSort, ZerosHaveTheirSorts}

within : (low high n : ℕ) → (nat_le low n && nat_le n high) ≡ true → (low ≤ n) × (n ≤ high)
within low high n e = let b = and_parts (nat_le low n) (nat_le n high) e in (leb-true low n b.0, leb-true n high b.1)

if_true : (b : Bool) (v w : Value) (s : Sort) → b ≡ true → HasSort v s → HasSort (if b then v else w) s
if_true true v w s e h = h
if_true false v w s e h = absurd (false≢true e)

zero_word : (w : ℕ) → is_width w ≡ true → HasSort (value.Word (w, 0)) (sort.Word w)
zero_word w e = let b = within 1 32 w e in (record { narrow = b.0; wide = b.1; fits = pow_pos w }, eq-eqb w w refl)

zero_row : (k w : ℕ) → is_index k ≡ true → is_width w ≡ true → HasSort (value.Row (filled_row k w 0)) (sort.Row k w)
zero_row k w e f =
    let b = within 1 6 k e in
    let d = within 1 32 w f in (
      record {
        low = b.0;
        high = b.1;
        narrow = d.0;
        wide = d.1;
        size = length-replicate (2 ^ k) 0;
        fits = λ i h. let z : slice_index (replicate (2 ^ k) 0) i ≡ 0 = get_or-replicate (2 ^ k) i 0 0 h in omega (arith, z, pow_pos w);
      },
      rw (eq-eqb k k refl, eq-eqb w w refl) refl,
    )

pub zeros_have_their_sorts : ZerosHaveTheirSorts
zeros_have_their_sorts sort.Bool p = (tt, refl)
zeros_have_their_sorts (sort.Word w) p = if_true (is_width w) (value.Word (w, 0)) nothing (sort.Word w) p (zero_word w p)
zeros_have_their_sorts (sort.Row k w) p =
    let b = and_parts (is_index k) (is_width w) p in
    if_true (is_index k && is_width w) (value.Row (filled_row k w 0)) nothing (sort.Row k w) p (zero_row k w b.0 b.1)
