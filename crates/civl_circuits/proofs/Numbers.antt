-- The number that a word is.
use Rattle.std.proofs.Common.{◌≡◌, ℕ, zero, suc, ◌+◌, ◌*◌, ◌/◌, ◌^◌, ◌%◌, ◌<◌, ◌≤◌, List, [], ◌∷◌, ◌++◌, length, get_or, take, drop, replicate, map, refl, sym, ◌∙◌, ap, ap₂, arith, Bool, true, false, not, add-one}
use Rattle.std.proofs.Math.Nat.{pow-succ', mod-eq_of_lt, add-mul-mod_self_left}
use Rattle.std.proofs.Math.Seq.{drop-cons}
use Rattle.std.proofs.lemmas.List.{take_more, take-append-drop, length-take-le, take_all}
use Rattle.civl_bits.specs.Word.{complement_at}
use Rattle.civl_cnf.specs.Literal.{Literal, truth_of, opposite}
use Rattle.civl_cnf.specs.Gates.{bit}
use Rattle.civl_cnf.proofs.Extending.{truth_of-opposite}
use Rattle.civl_circuits.specs.Circuits.{number}

append_step : (b n m p k : ℕ) → n ≡ m + p * k → b + 2 * n ≡ b + 2 * m + 2 * p * k
append_step b n m p k e = grind arith

pub number-append : (v : ℕ → Bool) (xs ys : List Literal) → number v (xs ++ ys) ≡ number v xs + 2 ^ length xs * number v ys
number-append v [] ys = omega arith
number-append v (x ∷ xs) ys =
    rw (pow-succ' 2 (length xs)) (append_step (bit (truth_of v x)) (number v (xs ++ ys)) (number v xs) (2 ^ length xs) (number v ys) (number-append v xs ys))

pub number-push : (v : ℕ → Bool) (xs : List Literal) (y : Literal) → number v (xs ++ y ∷ []) ≡ number v xs + 2 ^ length xs * bit (truth_of v y)
number-push v xs y = number-append v xs (y ∷ []) ∙ ap (λ n. number v xs + 2 ^ length xs * n) (omega arith)

-- one more of the low bits
pub number-more : (v : ℕ → Bool) (xs : List Literal) (i : ℕ) (d : Literal) → i < length xs → number v (take (i + 1) xs) ≡ number v (take i xs) + 2 ^ i * bit (truth_of v (get_or xs i d))
number-more v xs i d h =
    let size : length (take i xs) ≡ i = length-take-le i xs (omega arith) in
    ap (number v) (take_more xs i d h) ∙ number-push v (take i xs) (get_or xs i d) ∙ ap (λ n. number v (take i xs) + 2 ^ n * bit (truth_of v (get_or xs i d))) size

-- the same, where the next bit is known by its place
pub number-next : (v : ℕ → Bool) (xs : List Literal) (i : ℕ) (x : Literal) → i < length xs → x ≡ get_or xs i x → number v (take (i + 1) xs) ≡ number v (take i xs) + 2 ^ i * bit (truth_of v x)
number-next v xs i x h e = number-more v xs i x h ∙ ap (λ l. number v (take i xs) + 2 ^ i * bit (truth_of v l)) (sym e)

pub bit-small : (b : Bool) → bit b ≤ 1
bit-small true = omega arith
bit-small false = omega arith

pub number-lt : (v : ℕ → Bool) (xs : List Literal) → number v xs < 2 ^ length xs
number-lt v [] = omega arith
number-lt v (x ∷ xs) = omega (arith, number-lt v xs, bit-small (truth_of v x), pow-succ' 2 (length xs))

pub number-low : (v : ℕ → Bool) (i : ℕ) (xs : List Literal) → i ≤ length xs → number v (take i xs) < 2 ^ i
number-low v i xs h = omega (arith, number-lt v (take i xs), ap (λ k. 2 ^ k) (length-take-le i xs h))

bit_not : (b : Bool) → bit (not b) + bit b ≡ 1
bit_not true = refl
bit_not false = refl

pub number-flipped : (v : ℕ → Bool) (xs : List Literal) → number v (map opposite xs) + number v xs + 1 ≡ 2 ^ length xs
number-flipped v [] = refl
number-flipped v (x ∷ xs) = omega (arith, number-flipped v xs, ap bit (truth_of-opposite v x), bit_not (truth_of v x), pow-succ' 2 (length xs))

pub number-zeros : (v : ℕ → Bool) (z : Literal) → truth_of v z ≡ false → (n : ℕ) → number v (replicate n z) ≡ 0
number-zeros v z e zero = refl
number-zeros v z e (suc n) = omega (arith, ap bit e, number-zeros v z e n)

pub number-split : (v : ℕ → Bool) (n : ℕ) (xs : List Literal) → n ≤ length xs → number v xs ≡ number v (take n xs) + 2 ^ n * number v (drop n xs)
number-split v n xs h =
    let size : length (take n xs) ≡ n = length-take-le n xs h in
    sym (ap (number v) (take-append-drop n xs)) ∙ number-append v (take n xs) (drop n xs) ∙ ap (λ k. number v (take n xs) + 2 ^ k * number v (drop n xs)) size

-- a word cut to its low bits
pub number-take : (v : ℕ → Bool) (n : ℕ) (xs : List Literal) → n ≤ length xs → number v (take n xs) ≡ number v xs % 2 ^ n
number-take v n xs h =
    sym (mod-eq_of_lt (number-low v n xs h)) ∙ sym (add-mul-mod_self_left (number v (take n xs)) (2 ^ n) (number v (drop n xs))) ∙ ap (λ k. k % 2 ^ n) (sym (number-split v n xs h))

quotient : (n p a d : ℕ) → n < p → a ≡ n + p * d → d ≡ a / p
quotient n p a d h e = grind arith

-- the bits from a place on
pub number-high : (v : ℕ → Bool) (n : ℕ) (xs : List Literal) → n ≤ length xs → number v (drop n xs) ≡ number v xs / 2 ^ n
number-high v n xs h = quotient (number v (take n xs)) (2 ^ n) (number v xs) (number v (drop n xs)) (number-low v n xs h) (number-split v n xs h)

-- a word split at its top bit
pub number-top : (v : ℕ → Bool) (n : ℕ) (xs : List Literal) (x : Literal) → length xs ≡ n + 1 → x ≡ get_or xs n x → number v xs ≡ number v (take n xs) + 2 ^ n * bit (truth_of v x)
number-top v n xs x e is = sym (ap (number v) (take_all (n + 1) xs (omega arith))) ∙ number-next v xs n x (omega arith) is

-- a word from one of its bits on
pub number-drop : (v : ℕ → Bool) (i : ℕ) (xs : List Literal) (x : Literal) → i < length xs → x ≡ get_or xs i x → number v (drop i xs) ≡ bit (truth_of v x) + 2 * number v (drop (i + 1) xs)
number-drop v i xs x h e =
    ap (number v) (drop-cons xs i x h) ∙ ap₂ (λ k l. bit (truth_of v l) + 2 * number v (drop k xs)) (sym (add-one i)) (sym e)

pub number-complement : (v : ℕ → Bool) (xs ys : List Literal) → ys ≡ map opposite xs → number v ys ≡ complement_at (length xs) (number v xs)
number-complement v xs ys e = ap (number v) e ∙ omega (arith, number-flipped v xs)
