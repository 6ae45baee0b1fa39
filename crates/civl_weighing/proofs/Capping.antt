-- Sums and products of numbers as far as the limit tells them apart.
use Rattle.std.proofs.Common.{◌≡◌, ℕ, zero, suc, ◌+◌, ◌*◌, ◌<◌, ◌≤◌, ◌-◌, ◌/◌, nat_lt, ap, sym, ◌∙◌, arith, rules, refl, ⊎_elim}
use Rattle.std.specs.Prelude.{Bool, if◌then◌else◌}
use Rattle.std.proofs.Math.Nat.{le-mul_of_pos_right, mul-le-mul, mul_comm}
use Rattle.std.proofs.lemmas.Bool.{cases_lt}
use native.Mathlib.Numerals.{unary_clauses}
use Rattle.civl_tree.specs.declared.program.Program.{Program}
use Rattle.civl_conditions.specs.Weights.{lin}
use Rattle.civl_weighing.specs.declared.weight.Weight.{Weight}
use Rattle.civl_weighing.specs.Weighing.{capped, Weighs, IsSum, IsProduct, ArePairs, IsWhere, IsLinear}

capped_sum : (m n : ℕ) → capped (capped m + capped n) ≡ capped (m + n)
unfolding capped
capped_sum m n = omega arith

pub capped_big : (n : ℕ) → 400001 ≤ n → capped n ≡ 400001
unfolding capped
capped_big n h = omega arith

pub capped_small : (n : ℕ) → n ≤ 400001 → capped n ≡ n
unfolding capped
capped_small n h = omega arith

at_least_one : (n : ℕ) → 1 ≤ n → 1 ≤ capped n
unfolding capped
at_least_one n h = omega arith

big_product : (m n : ℕ) → 400001 ≤ m → 1 ≤ n → capped (m * n) ≡ 400001
big_product m n h k = capped_big (m * n) (omega (arith, le-mul_of_pos_right {m = n} m k))

by_big : (m n : ℕ) → 400001 ≤ m → capped (capped m * capped n) ≡ capped (m * n)
by_big m zero h = rw (capped_small 0 (omega arith)) (simp unary_clauses)
by_big m (suc n) h = big_product (capped m) (capped (suc n)) (omega (arith, capped_big m h)) (at_least_one (suc n) (omega arith)) ∙ sym (big_product m (suc n) h (omega arith))

capped_product : (m n : ℕ) → capped (capped m * capped n) ≡ capped (m * n)
capped_product m n = ⊎_elim (λ h. ⊎_elim (λ k. both h k) (λ k. other k) (cases_lt n 400001)) (by_big m n) (cases_lt m 400001)
  where
    both : m < 400001 → n < 400001 → capped (capped m * capped n) ≡ capped (m * n)
    both h k = rw (capped_small m (omega arith), capped_small n (omega arith)) refl

    other : 400001 ≤ n → capped (capped m * capped n) ≡ capped (m * n)
    other k = ap capped (mul_comm (capped m) (capped n)) ∙ by_big n m k ∙ ap capped (mul_comm n m)

pub capped_over : (n : ℕ) → nat_lt 400000 (capped n) ≡ nat_lt 400000 n
capped_over n = ⊎_elim (λ h. ap (nat_lt 400000) (capped_small n (omega arith))) (λ h. ap (nat_lt 400000) (capped_big n h) ∙ sym (over n h)) (cases_lt n 400001)
  where
    over : (n : ℕ) → 400001 ≤ n → nat_lt 400000 n ≡ nat_lt 400000 400001
    over n h = grind arith

pub sum_weighs : {a b w : Weight} {m n : ℕ} → IsSum a b w → Weighs a m → Weighs b n → Weighs w (m + n)
sum_weighs {a} {b} {w} {m} {n} s h k = record { is = s.is ∙ ap (λ (x : ℕ). capped (x + b.number)) h.is ∙ ap (λ (y : ℕ). capped (capped m + y)) k.is ∙ capped_sum m n }

pub product_weighs : {a b w : Weight} {m n : ℕ} → IsProduct a b w → Weighs a m → Weighs b n → Weighs w (m * n)
product_weighs {a} {b} {w} {m} {n} s h k = record { is = s.is ∙ ap (λ (x : ℕ). capped (x * b.number)) h.is ∙ ap (λ (y : ℕ). capped (capped m * y)) k.is ∙ capped_product m n }

-- a number that is as good as another
pub weighs_same : {w : Weight} {m n : ℕ} → m ≡ n → Weighs w m → Weighs w n
weighs_same {w} {m} {n} e h = record { is = h.is ∙ ap capped e }

-- ---- linear items

half_more : (n : ℕ) → 400001 ≤ n → 400001 ≤ n * (n - 1) / 2
half_more n h = let two : 2 ≤ n - 1 = omega arith in let more : 400001 * 2 ≤ n * (n - 1) = mul-le-mul h two in omega (arith, more)

capped_pairs : (n : ℕ) → capped (capped n * (capped n - 1) / 2) ≡ capped (n * (n - 1) / 2)
capped_pairs n = ⊎_elim (λ h. ap (λ (m : ℕ). capped (m * (m - 1) / 2)) (capped_small n (omega arith))) (λ h. capped_big _ (half_more (capped n) (omega (arith, capped_big n h))) ∙ sym (capped_big _ (half_more n h))) (cases_lt n 400001)

pub pairs_weigh : {a w : Weight} {n : ℕ} → ArePairs a w → Weighs a n → Weighs w (n * (n - 1) / 2)
pairs_weigh {a} {w} {n} p h = record { is = p.is ∙ ap (λ (m : ℕ). capped (m * (m - 1) / 2)) h.is ∙ capped_pairs n }

pub linear_weighs : {program : Program} {items w : Weight} {n : ℕ} → IsLinear program items w → Weighs items n → Weighs w (lin program n)
linear_weighs h k = h.is _ k

pub where_weighs : {b : Bool} {a w : Weight} {n : ℕ} → IsWhere b a w → Weighs a n → Weighs w (if b then n else 0)
where_weighs h k = h.is _ k

pub ruleset weighing = (rules, sum_weighs, product_weighs, pairs_weigh, linear_weighs, where_weighs)
