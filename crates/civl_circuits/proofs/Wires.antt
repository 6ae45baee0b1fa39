-- Words that take no gates.
use Rattle.std.specs.Prelude.{IsTrue, nat_eq, if◌then◌else◌}
use Rattle.std.proofs.Common.{◌≡◌, ℕ, ◌+◌, ◌*◌, ◌-◌, ◌/◌, ◌^◌, ◌%◌, ◌<◌, ◌≤◌, List, [], ◌∷◌, ◌++◌, length, take, drop, replicate, refl, sym, ◌∙◌, ap, ap₂, arith, Bool, false, not, length-append, length-drop, mul_comm, inl, inr}
use Rattle.std.proofs.Math.Nat.{div-one, mod-one}
use Rattle.std.proofs.lemmas.Bool.{cases_eq, cond-true, cond-false, eq-eqb, ne_eqb}
use Rattle.std.proofs.lemmas.Nat.{mod-pow-add, shr-shr}
use Rattle.std.proofs.lemmas.List.Elements.{All-nil, All-push}
use Rattle.civl_bits.specs.Word.{slice_of, concatenation_at}
use Rattle.civl_cnf.specs.Literal.{Literal, truth_of, opposite}
use Rattle.civl_cnf.specs.Gates.{bit}
use Rattle.civl_cnf.proofs.Extending.{truth_of-opposite}
use Rattle.civl_circuits.specs.Circuits.{number, IsConstantWord}
use Rattle.civl_circuits.proofs.Numbers.{number-append, number-push, number-take, number-zeros, number-high}

-- the low digits of a number, with the rest of it
pub record Digits (one : Literal) (whole at rest : ℕ) (word : List Literal) : Type 0 where
  pub rest_is : rest ≡ whole / 2 ^ at
  pub constant : IsConstantWord one word at (whole % 2 ^ at)

pub digits_none : (one : Literal) (whole : ℕ) → Digits one whole 0 whole []
digits_none one whole = record {
  rest_is = sym (div-one whole);
  constant = record {
    size = refl;
    below = λ n h. All-nil (λ l. l.variable < n);
    number_is = λ v h. sym (mod-one whole);
  };
}

digit_bit : (v : ℕ → Bool) (one z : Literal) (n : ℕ) → IsTrue (truth_of v one) → z ≡ opposite one → bit (truth_of v (if nat_eq (n % 2) 1 then one else z)) ≡ n % 2
digit_bit v one z n h e = elim (cases_eq (n % 2) 1) [
  | inl odd ↦ ap (λ l. bit (truth_of v l)) (cond-true (nat_eq (n % 2) 1) one z (eq-eqb (n % 2) 1 odd)) ∙ ap bit h ∙ sym odd
  | inr even ↦
      let off : truth_of v z ≡ false = ap (truth_of v) e ∙ truth_of-opposite v one ∙ ap not h in
      ap (λ l. bit (truth_of v l)) (cond-false (nat_eq (n % 2) 1) one z (ne_eqb (n % 2) 1 even)) ∙ ap bit off ∙ omega arith
]

digit_below : (n k : ℕ) (one z : Literal) → one.variable < n → z ≡ opposite one → (if nat_eq (k % 2) 1 then one else z).variable < n
digit_below n k one z h e = elim (cases_eq (k % 2) 1) [
  | inl odd ↦ omega (arith, ap (λ (l : Literal). l.variable) (cond-true (nat_eq (k % 2) 1) one z (eq-eqb (k % 2) 1 odd)))
  | inr even ↦ omega (arith, ap (λ (l : Literal). l.variable) (cond-false (nat_eq (k % 2) 1) one z (ne_eqb (k % 2) 1 even)), ap (λ (l : Literal). l.variable) e)
]

pub digits_more : (one z l : Literal) (whole at rest : ℕ) (word : List Literal) → Digits one whole at rest word → z ≡ opposite one → l ≡ (if nat_eq (rest % 2) 1 then one else z) → Digits one whole (at + 1) (rest / 2) (word ++ l ∷ [])
digits_more one z l whole at rest word d ez el = record {
  rest_is = ap (λ n. n / 2) d.rest_is ∙ shr-shr whole at 1;
  constant = record {
    size = length-append word (l ∷ []) ∙ ap (λ n. n + 1) d.constant.size;
    below = λ n h. All-push (λ m. m.variable < n) word l (d.constant.below n h) (omega (arith, ap (λ (m : Literal). m.variable) el, digit_below n rest one z h ez));
    number_is = λ v h.
        number-push v word l
        ∙ ap₂ (λ n k. n + 2 ^ k * bit (truth_of v l)) (d.constant.number_is v h) d.constant.size
        ∙ ap (λ m. whole % 2 ^ at + 2 ^ at * bit (truth_of v m)) el
        ∙ ap (λ b. whole % 2 ^ at + 2 ^ at * b) (digit_bit v one z rest h ez ∙ ap (λ n. n % 2) d.rest_is)
        ∙ turned (whole % 2 ^ at) (2 ^ at) (whole / 2 ^ at % 2 ^ 1)
        ∙ sym (mod-pow-add whole 1 at)
        ∙ ap (λ k. whole % 2 ^ k) (omega arith);
  };
} where
  turned : (a p d : ℕ) → a + p * d ≡ d * p + a
  turned a p d = omega (arith, mul_comm p d)

pub sliced : (v : ℕ → Bool) (a : List Literal) (high low : ℕ) → low ≤ high → high < length a → number v (take (high - low + 1) (drop low a)) ≡ slice_of (number v a) high low
sliced v a high low h l =
    let size = length-drop low a in
    number-take v (high - low + 1) (drop low a) (omega (arith, size)) ∙ ap (λ n. n % 2 ^ (high - low + 1)) (number-high v low a (omega arith))

pub joined : (v : ℕ → Bool) (high low word : List Literal) → word ≡ low ++ high → number v word ≡ concatenation_at (length low) (number v high) (number v low)
joined v high low word e = ap (number v) e ∙ number-append v low high ∙ turned (number v low) (2 ^ length low) (number v high) where
  turned : (a p d : ℕ) → a + p * d ≡ d * p + a
  turned a p d = omega (arith, mul_comm p d)

pub widened : (v : ℕ → Bool) (a word : List Literal) (one : Literal) (n : ℕ) → word ≡ a ++ replicate n (opposite one) → IsTrue (truth_of v one) → number v word ≡ number v a
widened v a word one n e h =
    let off : truth_of v (opposite one) ≡ false = truth_of-opposite v one ∙ ap not h in
    ap (number v) e ∙ number-append v a (replicate n (opposite one)) ∙ ap (λ k. number v a + 2 ^ length a * k) (number-zeros v (opposite one) off n) ∙ plain (number v a) (2 ^ length a) where
      plain : (a p : ℕ) → a + p * 0 ≡ a
      plain a p = omega arith
