-- Restoring division.
use Rattle.std.specs.Prelude.{nat_eq, nat_le, if◌then◌else◌}
use Rattle.std.proofs.Common.{◌≡◌, ℕ, zero, suc, ◌+◌, ◌*◌, ◌-◌, ◌/◌, ◌^◌, ◌%◌, ◌<◌, ◌≤◌, List, [], ◌∷◌, ◌++◌, length, get_or, take, drop, replicate, map, refl, sym, ◌∙◌, ap, ap₂, arith, inl, inr, Bool, true, false, cond, leb, add-one, length-drop, length-append}
use Rattle.std.proofs.Math.Nat.{pow-succ', mod-eq_of_lt, mod-add-div, zero-div, zero-mod, add-mul-mod_self_left}
use Rattle.std.proofs.Math.Pow.{pow_mono}
use Rattle.std.proofs.lemmas.Bool.{cases_eq, cases_lt, le-leb, lt-leb, leb-true, eq-eqb, ne_eqb, cond-true, cond-false}
use Rattle.std.proofs.lemmas.List.{length-replicate, length-map, length-take-le, drop_all, take_all}
use Rattle.std.proofs.lemmas.List.Elements.{All-nil, All-cons, All-get_or}
use Rattle.std.proofs.lemmas.Nat.{pow_pos, mod_below}
use Rattle.civl_bits.specs.Word.{quotient_at, remainder_at}
use Rattle.civl_cnf.specs.Literal.{Literal, truth_of, opposite}
use Rattle.civl_cnf.specs.ClauseSet.{ClauseSet, IsBelow, Satisfies}
use Rattle.civl_cnf.specs.Gates.{Extends, bit}
use Rattle.civl_cnf.proofs.Extending.{extends_same, extends_trans, extends_keeps}
use Rattle.civl_circuits.specs.Circuits.{number, IsOne, MakesWord, MakesBit}
use Rattle.civl_circuits.proofs.Numbers.{number-push, number-lt, number-low, number-take, number-top, number-drop, number-zeros, bit-small, number-complement, number-split, number-next}
use Rattle.civl_circuits.proofs.Words.{IsBelow-more, IsBelow-replicate, IsBelow-append, word_as, zero_is}
use Rattle.civl_circuits.proofs.Wires.{widened}

-- the carry tells whether there is enough, where p is 2 ^ n and the sum is of n + 1 bits
enough_is : (t : Bool) (p low x b f : ℕ) → low < 2 * p → x < 2 * p → b < p → f ≡ (p - 1 - b) + p → low + 2 * p * bit t ≡ x + f + 1 → t ≡ leb b x
enough_is true p low x b f hl hx hb e h = sym (le-leb b x (omega arith))
enough_is false p low x b f hl hx hb e h = sym (lt-leb b x (omega arith))

rest_is : (t : Bool) (p x b f s : ℕ) → b < p → t ≡ leb b x → f ≡ (p - 1 - b) + p → s ≡ x + f + 1 → cond t (s % p) (x % p) ≡ (cond (leb b x) (x - b) x) % p
rest_is true p x b f s hb e ef es =
    let within : b ≤ x = leb-true b x (sym e) in
    let split : s ≡ (x - b) + p * 2 = omega arith in
    ap (λ k. k % p) split ∙ add-mul-mod_self_left (x - b) p 2 ∙ ap (λ c. (cond c (x - b) x) % p) e
rest_is false p x b f s hb e ef es = ap (λ c. (cond c (x - b) x) % p) e

abbrev brought : (ℕ → Bool) → List Literal → Literal → ℕ
brought v rest next = bit (truth_of v next) + 2 * number v rest

-- what both answers of a step stand on
pub record IsStep (f g : ClauseSet) (rest b : List Literal) (next one : Literal) (from flipped sum : List Literal) (enough : Literal) : Type 0 where
  pub from_is : from ≡ next ∷ rest
  pub flipped_is : flipped ≡ map opposite b ++ one ∷ []
  pub size : length rest ≡ length b
  pub one_is : IsOne f one
  pub enough_at : enough ≡ get_or sum (length b + 1) enough
  pub made : MakesWord f g sum (length from + 1) (2 * length from) (λ v. number v from + number v flipped + bit (truth_of v one))

length-from : {f g : ClauseSet} {rest b from flipped sum : List Literal} {next one enough : Literal} → IsStep f g rest b next one from flipped sum enough → length from ≡ length b + 1
length-from i = ap length i.from_is ∙ omega (arith, i.size)

sum_is : {f g : ClauseSet} {rest b from flipped sum : List Literal} {next one enough : Literal} → IsStep f g rest b next one from flipped sum enough → (v : ℕ → Bool) → Satisfies v g.clauses → number v sum ≡ brought v rest next + ((2 ^ length b - 1 - number v b) + 2 ^ length b) + 1
sum_is {f} {g} {rest} {b} {from} {flipped} {sum} {next} {one} {enough} i v y =
    let on : bit (truth_of v one) ≡ 1 = ap bit (i.one_is.always v (extends_keeps i.made.extends v y)) in
    let turned : number v flipped ≡ (2 ^ length b - 1 - number v b) + 2 ^ length b =
    ap (number v) i.flipped_is ∙ number-push v (map opposite b) one
    ∙ ap₂ (λ n k. n + 2 ^ k * bit (truth_of v one)) (number-complement v b (map opposite b) refl) (length-map b opposite)
    ∙ ap (λ k. (2 ^ length b - 1 - number v b) + 2 ^ length b * k) on ∙ single (2 ^ length b - 1 - number v b) (2 ^ length b) in
    i.made.value v y ∙ ap₂ (λ n k. number v from + n + k) turned on ∙ ap (λ xs. number v xs + ((2 ^ length b - 1 - number v b) + 2 ^ length b) + 1) i.from_is
  where
    single : (n p : ℕ) → n + p * 1 ≡ n + p
    single n p = omega arith

brought_low : (v : ℕ → Bool) (rest b : List Literal) (next : Literal) → length rest ≡ length b → brought v rest next < 2 * 2 ^ length b
brought_low v rest b next e = omega (arith, number-lt v rest, bit-small (truth_of v next), ap (λ k. 2 ^ k) e)

enough_value : {f g : ClauseSet} {rest b from flipped sum : List Literal} {next one enough : Literal} → IsStep f g rest b next one from flipped sum enough → (v : ℕ → Bool) → Satisfies v g.clauses → truth_of v enough ≡ leb (number v b) (brought v rest next)
enough_value {f} {g} {rest} {b} {from} {flipped} {sum} {next} {one} {enough} i v y =
    let n : ℕ = length b in
    let long : length sum ≡ n + 1 + 1 = i.made.size ∙ ap (λ k. k + 1) (length-from i) in
    let power : 2 ^ (n + 1) ≡ 2 * 2 ^ n = ap (λ k. 2 ^ k) (add-one n) ∙ pow-succ' 2 n in
    let low : number v (take (n + 1) sum) < 2 * 2 ^ n = omega (arith, number-low v (n + 1) sum (omega arith), power) in
    let split : number v sum ≡ number v (take (n + 1) sum) + 2 * 2 ^ n * bit (truth_of v enough) =
    number-top v (n + 1) sum enough long i.enough_at ∙ ap (λ p. number v (take (n + 1) sum) + p * bit (truth_of v enough)) power in
    enough_is (truth_of v enough) (2 ^ n) (number v (take (n + 1) sum)) (brought v rest next) (number v b) ((2 ^ n - 1 - number v b) + 2 ^ n) low (brought_low v rest b next i.size) (number-lt v b) refl (sym split ∙ sum_is i v y)

pub step_enough : {f g h : ClauseSet} {rest b from flipped sum kept : List Literal} {next one enough : Literal} {fn : (ℕ → Bool) → ℕ} → IsStep f g rest b next one from flipped sum enough → MakesWord g h kept (length (take (length b) sum)) (length (take (length b) sum)) fn → MakesBit f h enough (3 * length b + 2) (λ v. nat_le (number v b) (bit (truth_of v next) + 2 * number v rest))
step_enough {f} {g} {h} {rest} {b} {from} {flipped} {sum} {kept} {next} {one} {enough} i w =
    let short : length (take (length b) sum) ≡ length b = length-take-le (length b) sum (omega (arith, i.made.size, length-from i)) in
    record {
      extends = extends_trans i.made.extends w.extends;
      variables = omega (arith, i.made.variables, w.variables, length-from i, short);
      below = omega (arith, ap (λ (l : Literal). l.variable) i.enough_at, All-get_or (λ l. l.variable < g.variables) sum (length b + 1) enough (omega (arith, i.made.size, length-from i)) i.made.below, w.extends.variables);
      value = λ v y. enough_value i v (extends_keeps w.extends v y);
    }

pub step_rest : {f g h : ClauseSet} {rest b from flipped sum kept : List Literal} {next one enough : Literal} → IsStep f g rest b next one from flipped sum enough → MakesWord g h kept (length (take (length b) sum)) (length (take (length b) sum)) (λ v. cond (truth_of v enough) (number v (take (length b) sum)) (number v (take (length b) from))) → MakesWord f h kept (length b) (3 * length b + 2) (λ v. (if nat_le (number v b) (bit (truth_of v next) + 2 * number v rest) then bit (truth_of v next) + 2 * number v rest - number v b else bit (truth_of v next) + 2 * number v rest) % 2 ^ length b)
step_rest {f} {g} {h} {rest} {b} {from} {flipped} {sum} {kept} {next} {one} {enough} i w =
    let short : length (take (length b) sum) ≡ length b = length-take-le (length b) sum (omega (arith, i.made.size, length-from i)) in
    record {
      extends = extends_trans i.made.extends w.extends;
      variables = omega (arith, i.made.variables, w.variables, length-from i, short);
      size = w.size ∙ short;
      below = w.below;
      value = λ v y.
          let before = extends_keeps w.extends v y in
          w.value v y
          ∙ ap₂ (cond (truth_of v enough)) (number-take v (length b) sum (omega (arith, i.made.size, length-from i))) (number-take v (length b) from (omega (arith, length-from i)) ∙ ap (λ xs. number v xs % 2 ^ length b) i.from_is)
          ∙ rest_is (truth_of v enough) (2 ^ length b) (brought v rest next) (number v b) ((2 ^ length b - 1 - number v b) + 2 ^ length b) (number v sum) (number-lt v b) (enough_value i v before) refl (sum_is i v before);
    }

-- division of the bits from `at` on
pub record IsDividing (first now : ClauseSet) (a b : List Literal) (at : ℕ) (quotient remainder : List Literal) : Type 0 where
  pub place : at ≤ length a
  pub extends : Extends first now
  pub variables : now.variables ≤ first.variables + (3 * length a + 2) * (length a - at)
  pub quotient_size : length quotient ≡ length a - at
  pub quotient_below : IsBelow now.variables quotient
  pub quotient_value : (v : ℕ → Bool) → Satisfies v now.clauses → number v quotient ≡ quotient_at (length a - at) (number v (drop at a)) (number v b)
  pub remainder_size : length remainder ≡ length b
  pub remainder_below : IsBelow now.variables remainder
  pub remainder_value : (v : ℕ → Bool) → Satisfies v now.clauses → number v remainder ≡ remainder_at (length a) (number v (drop at a)) (number v b)

quotient_by : (a n d b : ℕ) → n < b → a ≡ n + b * d → a / b ≡ d
quotient_by a n d b h e = grind arith

remainder_by : (a n d b : ℕ) → n < b → a ≡ n + b * d → a % b ≡ n
remainder_by a n d b h e = grind arith

doubled : (x r b q d : ℕ) → x ≡ r + b * q → d + 2 * x ≡ (d + 2 * r) + b * (2 * q)
doubled x r b q d e = grind arith

doubled_more : (x r b q d : ℕ) → x ≡ r + b * q → b ≤ d + 2 * r → d + 2 * x ≡ (d + 2 * r - b) + b * (1 + 2 * q)
doubled_more x r b q d e h = let split : d + 2 * r ≡ (d + 2 * r - b) + b = omega arith in doubled x r b q d e ∙ ap (λ n. n + b * (2 * q)) split ∙ regrouped (d + 2 * r - b) b q where
  regrouped : (n b q : ℕ) → n + b + b * (2 * q) ≡ n + b * (1 + 2 * q)
  regrouped n b q = grind arith

power_next : (k : ℕ) → 2 ^ (k + 1) ≡ 2 * 2 ^ k
power_next k = ap (λ n. 2 ^ n) (add-one k) ∙ pow-succ' 2 k

quotient_none : (k x b : ℕ) → b ≡ 0 → quotient_at k x b ≡ 2 ^ k - 1
quotient_none k x b e = cond-true (nat_eq b 0) (2 ^ k - 1) (x / b) (eq-eqb b 0 e)

quotient_some : (k x b : ℕ) → ((b ≡ 0) → ⊥) → quotient_at k x b ≡ x / b
quotient_some k x b ne = cond-false (nat_eq b 0) (2 ^ k - 1) (x / b) (ne_eqb b 0 ne)

remainder_none : (n x b : ℕ) → b ≡ 0 → remainder_at n x b ≡ x
remainder_none n x b e = cond-true (nat_eq b 0) x (x % b) (eq-eqb b 0 e)

remainder_some : (n x b : ℕ) → ((b ≡ 0) → ⊥) → remainder_at n x b ≡ x % b
remainder_some n x b ne = cond-false (nat_eq b 0) x (x % b) (ne_eqb b 0 ne)

positive : (b : ℕ) → ((b ≡ 0) → ⊥) → 0 < b
positive zero ne = absurd (ne refl)
positive (suc b) ne = omega arith

all_ones : (k q : ℕ) → q ≡ 2 ^ k - 1 → 1 + 2 * q ≡ 2 ^ (k + 1) - 1
all_ones k q e = rw (power_next k, e) (omega (arith, pow_pos k))

-- one more bit of the quotient
pub quotient_more : (n k x b d q r : ℕ) → d ≤ 1 → q ≡ quotient_at k x b → r ≡ remainder_at n x b → bit (leb b (d + 2 * r)) + 2 * q ≡ quotient_at (k + 1) (d + 2 * x) b
quotient_more n k x b d q r h eq er = elim (cases_eq b 0) [
  | inl none ↦
      let enough : leb b (d + 2 * r) ≡ true = le-leb b (d + 2 * r) (omega arith) in
      ap (λ t. bit t + 2 * q) enough ∙ all_ones k q (eq ∙ quotient_none k x b none) ∙ sym (quotient_none (k + 1) (d + 2 * x) b none)
  | inr some ↦
      let rest : r ≡ x % b = er ∙ remainder_some n x b some in
      let below : r < b = rw rest (mod_below x b (positive b some)) in
      let whole : x ≡ r + b * q = rw (rest, eq ∙ quotient_some k x b some) (sym (mod-add-div x b)) in
      elim (cases_lt (d + 2 * r) b) [
        | inl short ↦
            ap (λ t. bit t + 2 * q) (lt-leb b (d + 2 * r) short) ∙ plain (2 * q) ∙ sym (quotient_by (d + 2 * x) (d + 2 * r) (2 * q) b short (doubled x r b q d whole)) ∙ sym (quotient_some (k + 1) (d + 2 * x) b some)
        | inr long ↦
            ap (λ t. bit t + 2 * q) (le-leb b (d + 2 * r) long) ∙ sym (quotient_by (d + 2 * x) (d + 2 * r - b) (1 + 2 * q) b (omega arith) (doubled_more x r b q d whole long)) ∙ sym (quotient_some (k + 1) (d + 2 * x) b some)
      ]
] where
  plain : (n : ℕ) → 0 + n ≡ n
  plain n = omega arith

pub remainder_more : (n k x b d r : ℕ) → (b ≡ 0 → k < n) → x < 2 ^ k → b < 2 ^ n → d ≤ 1 → r ≡ remainder_at n x b → (cond (leb b (d + 2 * r)) (d + 2 * r - b) (d + 2 * r)) % 2 ^ n ≡ remainder_at n (d + 2 * x) b
remainder_more n k x b d r hk hx hb h er = elim (cases_eq b 0) [
  | inl none ↦
      let inside : k < n = hk none in
      let room : 2 ^ (k + 1) ≤ 2 ^ n = pow_mono {i = k + 1} {j = n} (omega arith) in
      let same : r ≡ x = er ∙ remainder_none n x b none in
      let left : d + 2 * r - b ≡ d + 2 * x = omega arith in
      ap (λ t. cond t (d + 2 * r - b) (d + 2 * r) % 2 ^ n) (le-leb b (d + 2 * r) (omega arith)) ∙ ap (λ m. m % 2 ^ n) left ∙ mod-eq_of_lt (omega (arith, power_next k, room)) ∙ sym (remainder_none n (d + 2 * x) b none)
  | inr some ↦
      let rest : r ≡ x % b = er ∙ remainder_some n x b some in
      let below : r < b = rw rest (mod_below x b (positive b some)) in
      let q : ℕ = x / b in
      let whole : x ≡ r + b * q = rw rest (sym (mod-add-div x b)) in
      elim (cases_lt (d + 2 * r) b) [
        | inl short ↦
            ap (λ t. cond t (d + 2 * r - b) (d + 2 * r) % 2 ^ n) (lt-leb b (d + 2 * r) short) ∙ mod-eq_of_lt (omega arith) ∙ sym (remainder_by (d + 2 * x) (d + 2 * r) (2 * q) b short (doubled x r b q d whole)) ∙ sym (remainder_some n (d + 2 * x) b some)
        | inr long ↦
            ap (λ t. cond t (d + 2 * r - b) (d + 2 * r) % 2 ^ n) (le-leb b (d + 2 * r) long) ∙ mod-eq_of_lt (omega arith) ∙ sym (remainder_by (d + 2 * x) (d + 2 * r - b) (1 + 2 * q) b (omega arith) (doubled_more x r b q d whole long)) ∙ sym (remainder_some n (d + 2 * x) b some)
      ]
]

nothing_over : (b : ℕ) → quotient_at 0 0 b ≡ 0
nothing_over b = elim (cases_eq b 0) [
  | inl none ↦ quotient_none 0 0 b none
  | inr some ↦ quotient_some 0 0 b some ∙ zero-div b
]

nothing_left : (n b : ℕ) → remainder_at n 0 b ≡ 0
nothing_left n b = elim (cases_eq b 0) [
  | inl none ↦ remainder_none n 0 b none
  | inr some ↦ remainder_some n 0 b some ∙ zero-mod b
]

pub dividing_none : (f : ClauseSet) (a b : List Literal) (one z : Literal) → IsOne f one → z ≡ opposite one → IsDividing f f a b (length a) [] (replicate (length b) z)
dividing_none f a b one z o ez =
    let nothing : length a - length a ≡ 0 = omega arith in
    let empty : (v : ℕ → Bool) → number v (drop (length a) a) ≡ 0 = λ v. ap (number v) (drop_all (length a) a (omega arith)) in
    record {
      place = omega arith;
      extends = extends_same f;
      variables = omega arith;
      quotient_size = sym nothing;
      quotient_below = All-nil (λ l. l.variable < f.variables);
      quotient_value = λ v y. sym (ap₂ (λ k x. quotient_at k x (number v b)) nothing (empty v) ∙ nothing_over (number v b));
      remainder_size = length-replicate (length b) z;
      remainder_below = IsBelow-replicate f.variables (length b) z (omega (arith, o.below, ap (λ (l : Literal). l.variable) ez));
      remainder_value = λ v y. number-zeros v z (ap (truth_of v) ez ∙ zero_is o v y) (length b) ∙ sym (ap (λ x. remainder_at (length a) x (number v b)) (empty v) ∙ nothing_left (length a) (number v b));
    }

step_costs : (c m at : ℕ) → at + 1 ≤ m → c * (m - (at + 1)) + c ≡ c * (m - at)
step_costs c m at h = let e : m - at ≡ (m - (at + 1)) + 1 = omega arith in rw e (grind arith)

pub dividing_more : {f g h : ClauseSet} (a b quotient remainder rest : List Literal) (from at : ℕ) (next enough : Literal) → from ≡ at + 1 → IsDividing f g a b from quotient remainder → length b ≤ length a → ((v : ℕ → Bool) → Satisfies v f.clauses → number v b ≡ 0 → length b ≡ length a) → next ≡ get_or a at next → MakesBit g h enough (3 * length b + 2) (λ v. leb (number v b) (bit (truth_of v next) + 2 * number v remainder)) → MakesWord g h rest (length b) (3 * length b + 2) (λ v. (cond (leb (number v b) (bit (truth_of v next) + 2 * number v remainder)) (bit (truth_of v next) + 2 * number v remainder - number v b) (bit (truth_of v next) + 2 * number v remainder)) % 2 ^ length b) → IsDividing f h a b at (enough ∷ quotient) rest
dividing_more {f} {g} {h} a b quotient remainder rest from at next enough ef i narrow whole en t w =
    let place : at + 1 ≤ length a = omega (arith, i.place) in
    let more : (v : ℕ → Bool) → number v (drop at a) ≡ bit (truth_of v next) + 2 * number v (drop (at + 1) a) = λ v. number-drop v at a next (omega arith) en in
    let k : ℕ = length a - (at + 1) in
    let size : length a - at ≡ k + 1 = omega arith in
    record {
      place = omega arith;
      extends = extends_trans i.extends w.extends;
      variables = omega (arith, i.variables, w.variables, step_costs (3 * length a + 2) (length a) at place, ap (λ n. (3 * length a + 2) * (length a - n)) ef);
      quotient_size = omega (arith, i.quotient_size);
      quotient_below = All-cons (λ l. l.variable < h.variables) enough quotient t.below (IsBelow-more g.variables h.variables quotient w.extends.variables i.quotient_below);
      quotient_value = λ v y.
          let before = extends_keeps w.extends v y in
          ap (λ t. bit t + 2 * number v quotient) (t.value v y)
          ∙ quotient_more (length a) k (number v (drop (at + 1) a)) (number v b) (bit (truth_of v next)) (number v quotient) (number v remainder) (bit-small (truth_of v next))
          (i.quotient_value v before ∙ ap (λ m. quotient_at (length a - m) (number v (drop m a)) (number v b)) ef)
          (i.remainder_value v before ∙ ap (λ m. remainder_at (length a) (number v (drop m a)) (number v b)) ef)
          ∙ sym (ap₂ (λ m x. quotient_at m x (number v b)) size (more v));
      remainder_size = w.size;
      remainder_below = w.below;
      remainder_value = λ v y.
          let before = extends_keeps w.extends v y in
          let low : number v (drop (at + 1) a) < 2 ^ k = omega (arith, number-lt v (drop (at + 1) a), ap (λ m. 2 ^ m) (length-drop (at + 1) a)) in
          w.value v y
          ∙ remainder_more (length b) k (number v (drop (at + 1) a)) (number v b) (bit (truth_of v next)) (number v remainder) (λ none. omega (arith, whole v (extends_keeps i.extends v before) none)) low (number-lt v b) (bit-small (truth_of v next))
          (i.remainder_value v before ∙ ap (λ m. remainder_at (length a) (number v (drop m a)) (number v b)) ef)
          ∙ sym (ap (λ x. remainder_at (length a) x (number v b)) (more v));
    }

pub quotient_all : {f g : ClauseSet} {a b quotient remainder : List Literal} {at : ℕ} → IsDividing f g a b at quotient remainder → at ≡ 0 → MakesWord f g quotient (length a) ((3 * length a + 2) * length a) (λ v. quotient_at (length a) (number v a) (number v b))
quotient_all {f} {g} {a} {b} {quotient} {remainder} {at} i e =
    let all : length a - at ≡ length a = omega arith in
    record {
      extends = i.extends;
      variables = omega (arith, i.variables, ap (λ n. (3 * length a + 2) * n) all);
      size = i.quotient_size ∙ all;
      below = i.quotient_below;
      value = λ v y. i.quotient_value v y ∙ ap₂ (λ n m. quotient_at n (number v (drop m a)) (number v b)) all e;
    }

pub remainder_all : {f g : ClauseSet} {a b quotient remainder : List Literal} {at : ℕ} → IsDividing f g a b at quotient remainder → at ≡ 0 → MakesWord f g remainder (length b) ((3 * length a + 2) * length a) (λ v. remainder_at (length a) (number v a) (number v b))
remainder_all {f} {g} {a} {b} {quotient} {remainder} {at} i e =
    let all : length a - at ≡ length a = omega arith in
    record {
      extends = i.extends;
      variables = omega (arith, i.variables, ap (λ n. (3 * length a + 2) * n) all);
      size = i.remainder_size;
      below = i.remainder_below;
      value = λ v y. i.remainder_value v y ∙ ap (λ m. remainder_at (length a) (number v (drop m a)) (number v b)) e;
    }

pub step_room : (s f c m from at : ℕ) → from ≡ at + 1 → from ≤ m → s ≤ f + c * (m - from) → f + c * m ≤ 2 ^ 30 → s + c ≤ 2 ^ 30
step_room s f c m from at e h es room =
    let split : m ≡ (m - (at + 1)) + (at + 1) = omega arith in
    let whole : c * m ≡ c * (m - (at + 1)) + c * at + c = ap (λ n. c * n) split ∙ grouped c (m - (at + 1)) at in
    omega (arith, ap (λ n. c * (m - n)) e)
  where
    grouped : (c n at : ℕ) → c * (n + (at + 1)) ≡ c * n + c * at + c
    grouped c n at = grind arith

below_product : (p n : ℕ) → 0 < p → 0 < n → 0 < p * n
below_product p n hp hn = grind arith

-- a word with a bit that is true isn't 0
pub number-has : (v : ℕ → Bool) (word : List Literal) (i : ℕ) (one : Literal) → i < length word → one ≡ get_or word i one → truth_of v one ≡ true → 0 < number v word
number-has v word i one h is on =
    let high : 0 < number v (drop i word) = omega (arith, number-drop v i word one h is, ap bit on) in
    omega (arith, number-split v i word (omega arith), below_product (2 ^ i) (number v (drop i word)) (pow_pos i) high)

-- the bits of a word from here on are the constant false
pub record IsLow (word : List Literal) (z : Literal) (width : ℕ) : Type 0 where
  pub place : width ≤ length word
  pub value : (v : ℕ → Bool) → truth_of v z ≡ false → number v (take width word) ≡ number v word

pub low_all : (word : List Literal) (z : Literal) → IsLow word z (length word)
low_all word z = record { place = omega arith; value = λ v off. ap (number v) (take_all (length word) word (omega arith)) }

pub low_less : (word : List Literal) (z : Literal) (from width : ℕ) → from ≡ width + 1 → IsLow word z from → z ≡ get_or word width z → IsLow word z width
low_less word z from width e i is = record {
  place = omega (arith, i.place);
  value = λ v off. sym (number-next v word width z (omega (arith, i.place)) is ∙ ap (λ t. number v (take width word) + 2 ^ width * bit t) off ∙ plain (number v (take width word)) (2 ^ width)) ∙ ap (λ n. number v (take n word)) (sym e) ∙ i.value v off;
} where
  plain : (n p : ℕ) → n + p * 0 ≡ n
  plain n p = omega arith

-- the same quotient, of a divisor that is the same number
pub quotient_as : {f g : ClauseSet} {quotient : List Literal} {one : Literal} {n cost : ℕ} (a low b : List Literal) → IsOne f one → ((v : ℕ → Bool) → truth_of v one ≡ true → number v low ≡ number v b) → MakesWord f g quotient n cost (λ v. quotient_at n (number v a) (number v low)) → MakesWord f g quotient n cost (λ v. quotient_at n (number v a) (number v b))
quotient_as {f} {g} {quotient} {one} {n} {cost} a low b o same w =
    word_as quotient n cost (λ v. quotient_at n (number v a) (number v b)) w w.size (omega arith) w.below (λ v y is. is ∙ ap (quotient_at n (number v a)) (same v (o.always v (extends_keeps w.extends v y))))

-- the same remainder with zeros above it, of a divisor that is the same number
pub remainder_as : {f g : ClauseSet} {narrow wide : List Literal} {one : Literal} {n m cost : ℕ} (a low b : List Literal) → IsOne f one → ((v : ℕ → Bool) → truth_of v one ≡ true → number v low ≡ number v b) → MakesWord f g narrow m cost (λ v. remainder_at n (number v a) (number v low)) → m ≤ n → wide ≡ narrow ++ replicate (n - length narrow) (opposite one) → MakesWord f g wide n cost (λ v. remainder_at n (number v a) (number v b))
remainder_as {f} {g} {narrow} {wide} {one} {n} {m} {cost} a low b o same w short e =
    let width : length wide ≡ n = ap length e ∙ length-append narrow (replicate (n - length narrow) (opposite one)) ∙ omega (arith, length-replicate (n - length narrow) (opposite one), w.size) in
    let below : IsBelow g.variables wide = rw e (IsBelow-append g.variables narrow (replicate (n - length narrow) (opposite one)) w.below (IsBelow-replicate g.variables (n - length narrow) (opposite one) (omega (arith, o.below, w.extends.variables)))) in
    word_as wide n cost (λ v. remainder_at n (number v a) (number v b)) w width (omega arith) below
    (λ v y is.
    let on : truth_of v one ≡ true = o.always v (extends_keeps w.extends v y) in
    widened v narrow wide one (n - length narrow) e on ∙ is ∙ ap (remainder_at n (number v a)) (same v on))
