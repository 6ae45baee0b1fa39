-- Numbers by their bits.
use Rattle.std.specs.Prelude.{min, max, bit_and, bit_or, bit_xor}
use Rattle.std.specs.Int.{bit_at}
use Rattle.std.proofs.Common.{◌≡◌, ◌∙◌, ℕ, zero, suc, ◌+◌, ◌-◌, ◌*◌, ◌/◌, ◌%◌, ◌^◌, ◌<◌, ◌≤◌, sym, ap, ap₂, subst, arith, add-zero, inl, inr}
use Rattle.std.proofs.lemmas.Bool.{cases_lt}
use Rattle.std.proofs.lemmas.Nat.{mul-add-lt, and_le_l, or_lt, xor_lt, shr_split, shr-shr, pow_pos}
use Rattle.std.proofs.lemmas.Nat.Bits.{bit_at_lowest, bit_at-suc, bit_at-zero, bit_at-lt, bit_at_and, bit_at_or, bit_at_xor, bit_at_cat_low, bit_at_cat_high, bit_at_above, same_from_bits_below}
use Rattle.std.proofs.Math.Nat.{pow-suc}
use Rattle.civl_bits.specs.Word.{number_of_bits, bitwise_and_at, bitwise_or_at, bitwise_xor_at, complement_at}

pub number_of_bits-lt : (w : ℕ) (f : ℕ → ℕ) → ((j : ℕ) → f j < 2) → number_of_bits w f < 2 ^ w
number_of_bits-lt zero f h = omega arith
number_of_bits-lt (suc w) f h =
    let low : number_of_bits w f < 2 ^ w = number_of_bits-lt w f h in
    let both : f w * 2 ^ w + number_of_bits w f < 2 ^ w * 2 = mul-add-lt (f w) (2 ^ w) (number_of_bits w f) 2 (h w) low in
    rw (pow-suc 2 w) (omega arith)

pub bit_at-number_of_bits : (w : ℕ) (f : ℕ → ℕ) → ((j : ℕ) → f j < 2) → (j : ℕ) → j < w → bit_at (number_of_bits w f) j ≡ f j
bit_at-number_of_bits zero f h j l = absurd (omega arith)
bit_at-number_of_bits (suc w) f h j l =
    let low : number_of_bits w f < 2 ^ w = number_of_bits-lt w f h in
    let turned : number_of_bits w f + f w * 2 ^ w ≡ f w * 2 ^ w + number_of_bits w f = omega arith in
    ap (λ n. bit_at n j) turned ∙ elim (cases_lt j w) [
      | inl below ↦ bit_at_cat_low (f w) w (number_of_bits w f) j below ∙ bit_at-number_of_bits w f h j below
      | inr above ↦
          let same : j ≡ w = omega arith in
          bit_at_cat_high (f w) w (number_of_bits w f) j low above ∙ ap (λ i. bit_at (f w) (i - w)) same ∙ top_bit w (f w) (h w) ∙ ap f (sym same)
    ]
  where
    top_bit : (w b : ℕ) → b < 2 → bit_at b (w - w) ≡ b
    top_bit w b h = let none : w - w ≡ 0 = omega arith in ap (λ i. bit_at b i) none ∙ omega arith

and_small : (a b j : ℕ) → min (bit_at a j) (bit_at b j) < 2
and_small a b j = omega (arith, bit_at-lt a j)

or_small : (a b j : ℕ) → max (bit_at a j) (bit_at b j) < 2
or_small a b j = omega (arith, bit_at-lt a j, bit_at-lt b j)

xor_small : (a b j : ℕ) → (bit_at a j + bit_at b j) % 2 < 2
xor_small a b j = omega arith

pub bit_at-bitwise_and : (w a b j : ℕ) → j < w → bit_at (bitwise_and_at w a b) j ≡ min (bit_at a j) (bit_at b j)
bit_at-bitwise_and w a b j l = bit_at-number_of_bits w (λ i. min (bit_at a i) (bit_at b i)) (and_small a b) j l

pub bit_at-bitwise_or : (w a b j : ℕ) → j < w → bit_at (bitwise_or_at w a b) j ≡ max (bit_at a j) (bit_at b j)
bit_at-bitwise_or w a b j l = bit_at-number_of_bits w (λ i. max (bit_at a i) (bit_at b i)) (or_small a b) j l

pub bit_at-bitwise_xor : (w a b j : ℕ) → j < w → bit_at (bitwise_xor_at w a b) j ≡ (bit_at a j + bit_at b j) % 2
bit_at-bitwise_xor w a b j l = bit_at-number_of_bits w (λ i. (bit_at a i + bit_at b i) % 2) (xor_small a b) j l

pub bitwise_and-lt : (w a b : ℕ) → bitwise_and_at w a b < 2 ^ w
bitwise_and-lt w a b = number_of_bits-lt w (λ i. min (bit_at a i) (bit_at b i)) (and_small a b)

pub bitwise_or-lt : (w a b : ℕ) → bitwise_or_at w a b < 2 ^ w
bitwise_or-lt w a b = number_of_bits-lt w (λ i. max (bit_at a i) (bit_at b i)) (or_small a b)

pub bitwise_xor-lt : (w a b : ℕ) → bitwise_xor_at w a b < 2 ^ w
bitwise_xor-lt w a b = number_of_bits-lt w (λ i. (bit_at a i + bit_at b i) % 2) (xor_small a b)

-- what the machine computes at a word's width
pub and_is : (w a b : ℕ) → a < 2 ^ w → b < 2 ^ w → bit_and a b ≡ bitwise_and_at w a b
and_is w a b h l = same_from_bits_below w (bit_and a b) (bitwise_and_at w a b) (omega (arith, and_le_l a b)) (bitwise_and-lt w a b) (λ i k. bit_at_and a b i ∙ sym (bit_at-bitwise_and w a b i k))

pub or_is : (w a b : ℕ) → a < 2 ^ w → b < 2 ^ w → bit_or a b ≡ bitwise_or_at w a b
or_is w a b h l = same_from_bits_below w (bit_or a b) (bitwise_or_at w a b) (or_lt w a b h l) (bitwise_or-lt w a b) (λ i k. bit_at_or a b i ∙ sym (bit_at-bitwise_or w a b i k))

pub xor_is : (w a b : ℕ) → a < 2 ^ w → b < 2 ^ w → bit_xor a b ≡ bitwise_xor_at w a b
xor_is w a b h l = same_from_bits_below w (bit_xor a b) (bitwise_xor_at w a b) (xor_lt w a b h l) (bitwise_xor-lt w a b) (λ i k. bit_at_xor a b i ∙ sym (bit_at-bitwise_xor w a b i k))

-- an operation on the fields of two words of one width is the one on the words
pub on_words : (op : ℕ → ℕ → ℕ) (at : ℕ → ℕ → ℕ → ℕ) → ((w a b : ℕ) → a < 2 ^ w → b < 2 ^ w → op a b ≡ at w a b) → (w v x u : ℕ) (a b : ℕ × ℕ) → ◌≡◌ {A = ℕ × ℕ} (w, v) a → ◌≡◌ {A = ℕ × ℕ} (x, u) b → a.0 ≡ b.0 → v < 2 ^ w → u < 2 ^ x → ◌≡◌ {A = ℕ × ℕ} (w, op v u) (a.0, at a.0 a.1 b.1)
on_words op at h w v x u a b p q r l k =
    let first = λ (n : ℕ × ℕ). n.0 in
    let one : x ≡ w = ap first q ∙ sym r ∙ sym (ap first p) in
    let P : ℕ → Type 0 = λ n. u < 2 ^ n in
    let with_value : ℕ → ℕ × ℕ = λ n. (w, n) in
    let result : ℕ × ℕ → ℕ × ℕ → ℕ × ℕ = λ m n. (m.0, at m.0 m.1 n.1) in
    ap with_value (h w v u l (subst P one k)) ∙ ap₂ result p q

-- the bits of a number below w are those of its remainder
pub bit_at-mod : (n w j : ℕ) → j < w → bit_at (n % 2 ^ w) j ≡ bit_at n j
bit_at-mod n w j l = sym (bit_at_cat_low (n / 2 ^ w) w (n % 2 ^ w) j l) ∙ ap (λ m. bit_at m j) (shr_split n w)

pub bit_at-shr : (n k j : ℕ) → bit_at (n / 2 ^ k) j ≡ bit_at n (k + j)
bit_at-shr n k j = ap (λ m. m % 2) (shr-shr n k j)

pub bit_at-shl_low : (n k j : ℕ) → j < k → bit_at (n * 2 ^ k) j ≡ 0
bit_at-shl_low n k j l = ap (λ m. bit_at m j) (sym (add-zero (n * 2 ^ k))) ∙ bit_at_cat_low n k 0 j l ∙ bit_at-zero j

pub bit_at-shl_high : (n k j : ℕ) → k ≤ j → bit_at (n * 2 ^ k) j ≡ bit_at n (j - k)
bit_at-shl_high n k j l = ap (λ m. bit_at m j) (sym (add-zero (n * 2 ^ k))) ∙ bit_at_cat_high n k 0 j (pow_pos k) l

pub bit_at-complement : (w a j : ℕ) → a < 2 ^ w → j < w → bit_at (complement_at w a) j ≡ 1 - bit_at a j
bit_at-complement zero a j h l = absurd (omega arith)
bit_at-complement (suc w) a zero h l =
    let twice : 2 ^ suc w ≡ 2 ^ w * 2 = pow-suc 2 w in
    bit_at_lowest (complement_at (suc w) a) ∙ omega arith ∙ ap (λ b. 1 - b) (sym (bit_at_lowest a))
bit_at-complement (suc w) a (suc j) h l =
    let twice : 2 ^ suc w ≡ 2 ^ w * 2 = pow-suc 2 w in
    let half : complement_at (suc w) a / 2 ≡ complement_at w (a / 2) = omega arith in
    let below : a / 2 < 2 ^ w = omega arith in
    bit_at-suc (complement_at (suc w) a) j ∙ ap (λ n. bit_at n j) half ∙ bit_at-complement w (a / 2) j below (omega arith) ∙ ap (λ b. 1 - b) (sym (bit_at-suc a j))

-- the top bit of a value of w bits
pub top_bit_clear : (w a : ℕ) → a < 2 ^ (w - 1) → bit_at a (w - 1) ≡ 0
top_bit_clear w a h = bit_at_above a (w - 1) (w - 1) h (omega arith)

pub top_bit_set : (w a : ℕ) → 1 ≤ w → a < 2 ^ w → 2 ^ (w - 1) ≤ a → bit_at a (w - 1) ≡ 1
top_bit_set zero a n h l = absurd (omega arith)
top_bit_set (suc w) a n h l =
    let same : suc w - 1 ≡ w = omega arith in
    let P : ℕ → Type 0 = λ k. 2 ^ k ≤ a in
    ap (bit_at a) same ∙ set_at w a h (subst P same l)
  where
    set_at : (w a : ℕ) → a < 2 ^ suc w → 2 ^ w ≤ a → bit_at a w ≡ 1
    set_at w a h l =
        let twice : 2 ^ suc w ≡ 2 ^ w * 2 = pow-suc 2 w in
        let split : 1 * 2 ^ w + (a - 2 ^ w) ≡ a = omega arith in
        let none : w - w ≡ 0 = omega arith in
        ap (λ n. bit_at n w) (sym split) ∙ bit_at_cat_high 1 w (a - 2 ^ w) w (omega arith) (omega arith) ∙ ap (bit_at 1) none
