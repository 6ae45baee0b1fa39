-- Sums and differences modulo a power of two.
use Rattle.std.proofs.Common.{◌≡◌, ℕ, ◌^◌, ◌<◌, arith}
use Rattle.std.proofs.Math.Nat.{add-mod}
use Rattle.std.proofs.Math.Nat.{mod-mod}
use Rattle.civl_bits.specs.Word.{sum_at, difference_at, negative_at}

pub difference-adds_negative : (w a b : ℕ) → a < 2 ^ w → b < 2 ^ w → difference_at w a b ≡ sum_at w a (negative_at w b)
difference-adds_negative w a b h l = grind (arith, add-mod, mod-mod)
