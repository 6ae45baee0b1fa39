-- Bounds by powers of two.
use Rattle.std.specs.Prelude.{bit_or, bit_xor}
use Rattle.std.proofs.Common.{◌≡◌, ℕ, ◌+◌, ◌*◌, ◌%◌, ◌^◌, ◌<◌, ◌≤◌, ap, arith, subst}
use Rattle.std.proofs.lemmas.Nat.{mul-add-lt, pow-add, shl_whole, or_lt, xor_lt}
use Rattle.std.proofs.Math.Pow.{pow_mono}

-- the conclusion shows the numbers to match
pub below_wider : (v w k : ℕ) → v < 2 ^ w → w ≤ k → v < 2 ^ k
below_wider v w k h l = omega (arith, pow_mono {i = w} {j = k} l)

pub below_same : (n v w k : ℕ) → n ≡ v → w ≡ k → v < 2 ^ w → n < 2 ^ k
below_same n v w k e f h = omega (arith, ap (λ i. 2 ^ i) f)

pub joined_below : (a b j k : ℕ) → a < 2 ^ j → b < 2 ^ k → j + k ≤ 32 → a * 2 ^ k % 18446744073709551616 + b < 2 ^ (j + k)
joined_below a b j k h l f =
    let whole : a * 2 ^ k % 2 ^ 64 ≡ a * 2 ^ k = shl_whole a j k 64 h (omega arith) in
    let both : a * 2 ^ k + b < 2 ^ k * 2 ^ j = mul-add-lt a (2 ^ k) b (2 ^ j) h l in
    let powers : 2 ^ (j + k) ≡ 2 ^ j * 2 ^ k = pow-add 2 j k in
    rw (whole, powers) (omega arith)

pub or_below : (w x a b : ℕ) → x ≡ w → a < 2 ^ w → b < 2 ^ x → bit_or a b < 2 ^ w
or_below w x a b e h l = let P : ℕ → Type 0 = λ n. b < 2 ^ n in or_lt w a b h (subst P e l)

pub xor_below : (w x a b : ℕ) → x ≡ w → a < 2 ^ w → b < 2 ^ x → bit_xor a b < 2 ^ w
xor_below w x a b e h l = let P : ℕ → Type 0 = λ n. b < 2 ^ n in xor_lt w a b h (subst P e l)
