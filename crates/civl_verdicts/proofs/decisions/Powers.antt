-- Powers of two beside numbers of 32 bits.
use Rattle.std.proofs.Common.{◌≡◌, ℕ, zero, suc, ◌*◌, ◌/◌, ◌%◌, ◌^◌, ◌<◌, ◌≤◌, sym, arith}
use Rattle.std.proofs.Math.Nat.{mod-eq_of_lt, div-eq_of_lt}
use Rattle.std.proofs.Math.Pow.{pow_mono}

pub past : (n k : ℕ) → n < 2 ^ 32 → 32 ≤ k → n < 2 ^ k
past n k l h = let m : 2 ^ 32 ≤ 2 ^ k = pow_mono {i = 32} {j = k} h in omega (arith, l, m)

pub low_past : (n k : ℕ) → n < 2 ^ 32 → 32 ≤ k → n ≡ n % 2 ^ k
low_past n k l h = sym (mod-eq_of_lt (past n k l h))

pub none_past : (n k : ℕ) → n < 2 ^ 32 → 32 ≤ k → 0 ≡ n / 2 ^ k
none_past n k l h = sym (div-eq_of_lt (past n k l h))

pub grown : (m k p : ℕ) → m < p → 1 ≤ k → m < k * p
grown m zero p l h = absurd (omega arith)
grown m (suc k) p l h = omega (arith, l)

pub times_past : (most count bits : ℕ) → most < 2 ^ 32 → 1 ≤ count → 32 ≤ bits → most < count * 2 ^ bits
times_past most count bits l h k = grown most count (2 ^ bits) (past most bits l k) h
