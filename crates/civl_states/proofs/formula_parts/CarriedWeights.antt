-- What so many items weigh, one after another.
use Rattle.std.specs.Prelude.{IsSome}
use Rattle.std.proofs.Common.{◌≡◌, ◌∙◌, ℕ, zero, suc, ◌+◌, ◌-◌, ◌*◌, ◌/◌, ◌^◌, ◌≤◌, Option, None, Some, sym, ap, subst, arith}
use Rattle.std.proofs.Math.Pow.{pow_mono}
use Rattle.std.proofs.lemmas.Bool.{false≢true}
use Rattle.std.proofs.lemmas.Nat.{mul-le}
use Rattle.civl_states.specs.formula_parts.Masks.{joining_weight}

-- by so much at most so many items raise a graph's weight
abbrev pub carried_weight : ℕ → ℕ → ℕ
carried_weight bits zero = 0
carried_weight bits (suc zero) = 6 * bits + 1
carried_weight bits (suc (suc n)) = carried_weight bits (suc n) + (6 * bits + 1 + (3 * bits + 1))

-- there is a mask exactly where there are items
abbrev pub HasMask : Option ℕ → ℕ → Type 0
HasMask None n = n ≡ 0
HasMask (Some mask) n = 1 ≤ n

pub mask_more : (mask : Option ℕ) (n : ℕ) → IsSome mask → HasMask mask (n + 1)
mask_more None n h = absurd (false≢true h)
mask_more (Some mask) n h = omega arith

-- one item more
pub weight_more : (bits n : ℕ) (mask : Option ℕ) → HasMask mask n → carried_weight bits (n + 1) ≡ carried_weight bits n + (6 * bits + 1 + joining_weight bits mask)
weight_more bits n None e =
    let one : n + 1 ≡ 1 = omega arith in
    ap (carried_weight bits) one ∙ subst (λ k. 6 * bits + 1 ≡ carried_weight bits k + (6 * bits + 1 + 0)) (sym e) (omega arith)
weight_more bits zero (Some mask) l = absurd (omega arith)
weight_more bits (suc n) (Some mask) l = let next : suc n + 1 ≡ suc (suc n) = omega arith in ap (carried_weight bits) next

weight_is : (bits n : ℕ) → carried_weight bits (suc n) ≡ n * (9 * bits + 2) + (6 * bits + 1)
weight_is bits zero = omega arith
weight_is bits (suc n) = omega (arith, weight_is bits n)

-- the sum of the numbers up to m
half_sum : (m : ℕ) → m ≤ suc m * (suc m - 1) / 2
half_sum zero = omega arith
half_sum (suc m) =
    let double : suc m * 2 ≤ suc (suc m) * suc m = omega (arith, mul-le (suc m) 2 (suc m) (suc (suc m)) (omega arith) (omega arith)) in
    omega arith

-- so many weigh no more than four times what a program's weight counts for them
pub carried_small : (permissions n : ℕ) → 1 ≤ permissions → carried_weight (2 ^ permissions) n ≤ 4 * (n * (permissions + 1) * 2 ^ permissions + (n * (n - 1) / 2) * 2 ^ permissions)
carried_small permissions zero l = omega arith
carried_small permissions (suc m) l =
    let bits = 2 ^ permissions in
    let two : 2 ≤ bits = pow_mono {i = 1} {j = permissions} l in
    let items : suc m * 2 * bits ≤ suc m * (permissions + 1) * bits = mul-le (suc m * 2) bits (suc m * (permissions + 1)) bits (mul-le (suc m) 2 (suc m) (permissions + 1) (omega arith) (omega arith)) (omega arith) in
    let pairs : m * bits ≤ suc m * (suc m - 1) / 2 * bits = mul-le m bits (suc m * (suc m - 1) / 2) bits (half_sum m) (omega arith) in
    let each : m * 2 ≤ m * bits = mul-le m 2 m bits (omega arith) two in
    let is = weight_is bits m in
    omega arith
