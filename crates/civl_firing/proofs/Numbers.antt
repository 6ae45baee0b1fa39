-- Every store has a number.
use Rattle.std.proofs.Common.{◌≡◌, ℕ, zero, suc, ◌+◌, ◌*◌, ◌/◌, ◌%◌, ◌^◌, ◌<◌, Bool, true, false, nat_eq, List, [], ◌∷◌, length, refl, sym, ap, ap₂, ◌∙◌, arith}
use Rattle.std.proofs.Math.Nat.{pow-suc, pow-succ', div-div-eq-div-mul}
use Rattle.civl_firing.specs.Table.{bit_of, bits_from, store_at}

-- 1 or 0
abbrev pub bit : Bool → ℕ
bit true = 1
bit false = 0

-- the number of a store: its first value is the lowest bit
abbrev pub number_of : List Bool → ℕ
number_of [] = 0
number_of (value ∷ values) = bit value + 2 * number_of values

pub number_of-lt : (store : List Bool) → number_of store < 2 ^ length store
number_of-lt [] = omega arith
number_of-lt (true ∷ values) = let rest = number_of-lt values in rw pow-suc (omega arith)
number_of-lt (false ∷ values) = let rest = number_of-lt values in rw pow-suc (omega arith)

-- the bits behind the lowest are those of the half
bit_of-suc : (place number : ℕ) → bit_of (suc place) number ≡ bit_of place (number / 2)
bit_of-suc place number =
    ap (λ d. nat_eq (d % 2) 1) (ap (λ m. number / m) (pow-succ' 2 place) ∙ sym (div-div-eq-div-mul number 2 (2 ^ place)))

bits_from-suc : (place count number : ℕ) → bits_from (suc place) count number ≡ bits_from place count (number / 2)
bits_from-suc place zero number = refl
bits_from-suc place (suc count) number = ap₂ (λ (b : Bool) (bs : List Bool). b ∷ bs) (bit_of-suc place number) (bits_from-suc (suc place) count number)

-- the lowest bit and the half of a number that is made of them
lowest : (value : Bool) (rest : ℕ) → bit_of 0 (bit value + 2 * rest) ≡ value
lowest true rest = let odd : ((1 + 2 * rest) / 2 ^ 0) % 2 ≡ 1 = omega arith in ap (λ d. nat_eq d 1) odd
lowest false rest = let even : ((0 + 2 * rest) / 2 ^ 0) % 2 ≡ 0 = omega arith in ap (λ d. nat_eq d 1) even

half : (value : Bool) (rest : ℕ) → (bit value + 2 * rest) / 2 ≡ rest
half true rest = omega arith
half false rest = omega arith

-- the store with a store's number is the store
pub store_at-number_of : (store : List Bool) → store_at (length store) (number_of store) ≡ store
store_at-number_of [] = refl
store_at-number_of (value ∷ values) =
    ap₂ (λ (b : Bool) (bs : List Bool). b ∷ bs) (lowest value (number_of values))
    (bits_from-suc 0 (length values) (number_of (value ∷ values)) ∙ ap (λ n. bits_from 0 (length values) n) (half value (number_of values)) ∙ store_at-number_of values)
