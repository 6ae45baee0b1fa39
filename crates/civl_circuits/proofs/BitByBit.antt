-- Operations on each bit.
use Rattle.std.specs.Prelude.{min, max}
use Rattle.std.specs.Int.{bit_at}
use Rattle.std.proofs.Common.{◌≡◌, ℕ, zero, suc, ◌+◌, ◌*◌, ◌/◌, ◌%◌, ◌^◌, ◌<◌, ◌≤◌, List, [], ◌∷◌, length, get_or, refl, sym, ◌∙◌, ap, ap₂, arith, Bool, true, false, ◌&&◌, ◌||◌, add-one, mul_comm}
use Rattle.std.proofs.lemmas.Nat.Bits.{bit_at_lowest, bit_at-suc}
use Rattle.civl_bits.specs.Word.{number_of_bits, bitwise_and_at, bitwise_or_at, bitwise_xor_at}
use Rattle.civl_cnf.specs.Literal.{Literal, truth_of}
use Rattle.civl_cnf.specs.Gates.{bit, xor}
use Rattle.civl_circuits.specs.Circuits.{number}
use Rattle.civl_circuits.proofs.Numbers.{bit-small}

lowest : (b n : ℕ) → b ≤ 1 → (b + 2 * n) % 2 ≡ b
lowest b n h = omega arith

rest_of : (b n : ℕ) → b ≤ 1 → (b + 2 * n) / 2 ≡ n
rest_of b n h = omega arith

-- a bit of the number is the truth value of the literal
pub bit_at-number : (v : ℕ → Bool) (xs : List Literal) (j : ℕ) (d : Literal) → j < length xs → bit_at (number v xs) j ≡ bit (truth_of v (get_or xs j d))
bit_at-number v [] j d h = absurd (omega arith)
bit_at-number v (x ∷ xs) zero d h = bit_at_lowest (number v (x ∷ xs)) ∙ lowest (bit (truth_of v x)) (number v xs) (bit-small (truth_of v x))
bit_at-number v (x ∷ xs) (suc j) d h =
    bit_at-suc (number v (x ∷ xs)) j ∙ ap (λ n. bit_at n j) (rest_of (bit (truth_of v x)) (number v xs) (bit-small (truth_of v x))) ∙ bit_at-number v xs j d (omega arith)

-- the same, where the literal is known by its place
pub bit_at-known : (v : ℕ → Bool) (xs : List Literal) (j : ℕ) (x : Literal) → j < length xs → x ≡ get_or xs j x → bit_at (number v xs) j ≡ bit (truth_of v x)
bit_at-known v xs j x h e = bit_at-number v xs j x h ∙ ap (λ l. bit (truth_of v l)) (sym e)

number_of_bits-more : (i : ℕ) (f : ℕ → ℕ) (b : ℕ) → b ≡ f i → number_of_bits i f + 2 ^ i * b ≡ number_of_bits (i + 1) f
number_of_bits-more i f b e =
    rw (add-one i) (ap (λ z. number_of_bits i f + 2 ^ i * z) e ∙ ap (λ z. number_of_bits i f + z) (mul_comm (2 ^ i) (f i)))

and_bit : (p q : Bool) → bit (p && q) ≡ min (bit p) (bit q)
and_bit true true = refl
and_bit true false = refl
and_bit false true = refl
and_bit false false = refl

or_bit : (p q : Bool) → bit (p || q) ≡ max (bit p) (bit q)
or_bit true true = refl
or_bit true false = refl
or_bit false true = refl
or_bit false false = refl

xor_bit : (p q : Bool) → bit (xor p q) ≡ (bit p + bit q) % 2
xor_bit true true = refl
xor_bit true false = refl
xor_bit false true = refl
xor_bit false false = refl

pub and_more : (v : ℕ → Bool) (a b : List Literal) (i : ℕ) (x y : Literal) → i < length a → i < length b → x ≡ get_or a i x → y ≡ get_or b i y → bitwise_and_at i (number v a) (number v b) + 2 ^ i * bit (truth_of v x && truth_of v y) ≡ bitwise_and_at (i + 1) (number v a) (number v b)
and_more v a b i x y ha hb ex ey =
    number_of_bits-more i (λ j. min (bit_at (number v a) j) (bit_at (number v b) j)) _
    (and_bit (truth_of v x) (truth_of v y) ∙ sym (ap₂ min (bit_at-known v a i x ha ex) (bit_at-known v b i y hb ey)))

pub or_more : (v : ℕ → Bool) (a b : List Literal) (i : ℕ) (x y : Literal) → i < length a → i < length b → x ≡ get_or a i x → y ≡ get_or b i y → bitwise_or_at i (number v a) (number v b) + 2 ^ i * bit (truth_of v x || truth_of v y) ≡ bitwise_or_at (i + 1) (number v a) (number v b)
or_more v a b i x y ha hb ex ey =
    number_of_bits-more i (λ j. max (bit_at (number v a) j) (bit_at (number v b) j)) _
    (or_bit (truth_of v x) (truth_of v y) ∙ sym (ap₂ max (bit_at-known v a i x ha ex) (bit_at-known v b i y hb ey)))

pub xor_more : (v : ℕ → Bool) (a b : List Literal) (i : ℕ) (x y : Literal) → i < length a → i < length b → x ≡ get_or a i x → y ≡ get_or b i y → bitwise_xor_at i (number v a) (number v b) + 2 ^ i * bit (xor (truth_of v x) (truth_of v y)) ≡ bitwise_xor_at (i + 1) (number v a) (number v b)
xor_more v a b i x y ha hb ex ey =
    number_of_bits-more i (λ j. (bit_at (number v a) j + bit_at (number v b) j) % 2) _
    (xor_bit (truth_of v x) (truth_of v y) ∙ sym (ap₂ (λ m n. (m + n) % 2) (bit_at-known v a i x ha ex) (bit_at-known v b i y hb ey)))
