-- Values behind the end of a list of sorts.
use Rattle.std.proofs.Common.{ℕ, ◌≡◌, ◌≤◌, ◌<◌, true, false, List, [], ◌∷◌, drop, length, zero, suc, refl, arith}
use Rattle.civl_bits.specs.declared.value.Value.{Value}
use Rattle.civl_firing.specs.values.Values.{are_of}

-- behind all sorts: whether there are no values left
pub fits_past : (vs : List Value) (at : ℕ) → at < length vs → are_of (drop at vs) [] ≡ false
fits_past [] at h = absurd (omega arith)
fits_past (v ∷ vs) zero h = refl
fits_past (v ∷ vs) (suc at) h = fits_past vs at (omega arith)

pub fits_end : (vs : List Value) (at : ℕ) → at ≤ length vs → (at < length vs → ⊥) → are_of (drop at vs) [] ≡ true
fits_end [] zero h g = refl
fits_end [] (suc at) h g = absurd (omega arith)
fits_end (v ∷ vs) zero h g = absurd (g (omega arith))
fits_end (v ∷ vs) (suc at) h g = fits_end vs at (omega arith) (λ l. g (omega arith))

pub ruleset fitting = (fits_past, fits_end)
