-- Words that are 0 or 1.
use Rattle.std.proofs.Common.{ℕ, ◌<◌, ◌≤◌, ◌^◌, if◌then◌else◌, nat_eq, Bool, true, false, arith}
use Rattle.civl_bits.specs.Word.{IsWord}
use Rattle.civl_bits.proofs.Powers.{below_wider}
use Rattle.civl_marks.specs.Others.{other_number}

-- they fit into each width
pub bit_is_word : (width n : ℕ) → 1 ≤ width → width ≤ 32 → n < 2 → IsWord width n
bit_is_word width n narrow wide below = record { narrow = narrow; wide = wide; fits = below_wider n 1 width below narrow }

picked_below : (b : Bool) → (if b then 1 else 0) < 2
picked_below true = omega arith
picked_below false = omega arith

pub other_below : (n : ℕ) → other_number n < 2
other_below n = picked_below (nat_eq n 0)
