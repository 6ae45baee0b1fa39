-- The numbers of cells of rows.
use Rattle.std.proofs.Common.{◌≡◌, ℕ, zero, suc, ◌^◌, ◌≤◌, inl, inr, refl, ap, arith}
use Rattle.std.proofs.lemmas.Nat.{pow_pos}
use Rattle.std.specs.Prelude.{◌⊎◌}

-- it is 2 to a power from 1 to 6
abbrev pub IsSize : ℕ → Type 0
IsSize n = (n ≡ 2) ⊎ (n ≡ 4) ⊎ (n ≡ 8) ⊎ (n ≡ 16) ⊎ (n ≡ 32) ⊎ (n ≡ 64)

pub is_size : (n : ℕ) → 1 ≤ n → n ≤ 6 → IsSize (2 ^ n)
is_size zero l h = absurd (omega (arith, l))
is_size (suc zero) l h = inl refl
is_size (suc (suc zero)) l h = inr (inl refl)
is_size (suc (suc (suc zero))) l h = inr (inr (inl refl))
is_size (suc (suc (suc (suc zero)))) l h = inr (inr (inr (inl refl)))
is_size (suc (suc (suc (suc (suc zero))))) l h = inr (inr (inr (inr (inl refl))))
is_size (suc (suc (suc (suc (suc (suc zero)))))) l h = inr (inr (inr (inr (inr refl))))
is_size (suc (suc (suc (suc (suc (suc (suc n))))))) l h = absurd (omega (arith, h))

-- the powers differ
pub one_power : (m n : ℕ) → 2 ^ m ≡ 2 ^ n → m ≡ n
one_power zero zero e = refl
one_power zero (suc n) e = let some = pow_pos n in absurd (omega (arith, e, some))
one_power (suc m) zero e = let some = pow_pos m in absurd (omega (arith, e, some))
one_power (suc m) (suc n) e = ap suc (one_power m n (omega (arith, e)))
