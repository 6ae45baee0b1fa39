-- The product by shifts and sums.
use Rattle.std.proofs.Common.{◌≡◌, ℕ, ◌+◌, ◌*◌, ◌^◌, ◌%◌, ◌<◌, ◌≤◌, List, length, get_or, take, replicate, sym, ◌∙◌, ap, ap₂, arith, Bool, true, false}
use Rattle.std.proofs.Math.Nat.{add-mod, mod-mod, mod-eq_of_lt}
use Rattle.std.proofs.lemmas.List.{length-replicate, take_all}
use Rattle.std.proofs.lemmas.Nat.{pow_pos, mul-le}
use Rattle.civl_bits.specs.Word.{sum_at, product_at, left_shift_at}
use Rattle.civl_bits.proofs.Moves.{left_shift-multiplies}
use Rattle.civl_cnf.specs.Literal.{Literal, truth_of, opposite}
use Rattle.civl_cnf.specs.ClauseSet.{ClauseSet}
use Rattle.civl_cnf.specs.Gates.{bit}
use Rattle.civl_cnf.proofs.Extending.{extends_same, extends_trans, extends_keeps}
use Rattle.civl_circuits.specs.Circuits.{number, IsOne, MakesWord}
use Rattle.civl_circuits.specs.inner.Shift.{shifted_word}
use Rattle.civl_circuits.specs.declared.shifting.Direction.TheVariants as direction
use Rattle.civl_circuits.proofs.Numbers.{number-next, number-zeros}
use Rattle.civl_circuits.proofs.Words.{IsBelow-replicate, zero_is, word_as}
use Rattle.civl_circuits.proofs.Moves.{number-moved, length-moved}

-- a step from its parts
pub added : {f g h : ClauseSet} {part word : List Literal} (sum a away : List Literal) (places : ℕ) (one z c : Literal) → MakesWord f g part (length away) (length away) (λ v. bit (truth_of v c) * number v away) → MakesWord g h word (length sum) (2 * length sum) (λ v. sum_at (length sum) (number v sum) (number v part)) → away ≡ shifted_word direction.Up z a places → IsOne f one → z ≡ opposite one → places ≤ length a → length sum ≡ length a → MakesWord f h word (length a) (3 * length a) (λ v. sum_at (length a) (number v sum) (bit (truth_of v c) * left_shift_at (length a) (number v a) places))
added {f} {g} {h} {part} {word} sum a away places one z c first second e o ez within size =
    let same : length away ≡ length a = ap length e ∙ length-moved direction.Up z a places within in
    record {
      extends = extends_trans first.extends second.extends;
      variables = omega (arith, first.variables, second.variables, same, size);
      size = second.size ∙ size;
      below = second.below;
      value = λ v y.
          let before = extends_keeps second.extends v y in
          let off : truth_of v z ≡ false = ap (truth_of v) ez ∙ zero_is o v (extends_keeps first.extends v before) in
          let part_is : number v part ≡ bit (truth_of v c) * left_shift_at (length a) (number v a) places =
          first.value v before ∙ ap (λ n. bit (truth_of v c) * n) (ap (number v) e ∙ number-moved v direction.Up z a places off within) in
          second.value v y ∙ ap₂ (λ n x. sum_at n (number v sum) x) size part_is;
    }

more : (c : Bool) (p a k q r : ℕ) → r ≡ a * k % p → (r + bit c * (a * q % p)) % p ≡ a * (k + q * bit c) % p
more true p a k q r e = ap₂ (λ m n. (m + n) % p) e (once (a * q % p)) ∙ sym (add-mod (a * k) (a * q) p) ∙ ap (λ m. m % p) (spread a k q) where
  once : (n : ℕ) → 1 * n ≡ n
  once n = omega arith

  spread : (a k q : ℕ) → a * k + a * q ≡ a * (k + q * 1)
  spread a k q = grind arith
more false p a k q r e = ap₂ (λ m n. (m + n) % p) e (gone (a * q % p)) ∙ ap (λ m. m % p) (plain (a * k % p)) ∙ mod-mod (a * k) p ∙ ap (λ m. a * m % p) (stays k q) where
  gone : (n : ℕ) → 0 * n ≡ 0
  gone n = omega arith

  plain : (n : ℕ) → n + 0 ≡ n
  plain n = omega arith

  stays : (k q : ℕ) → k ≡ k + q * 0
  stays k q = omega arith

costs : (f k at : ℕ) → f + k * at + k ≡ f + k * (at + 1)
costs f k at = grind arith

pub product_none : (f : ClauseSet) (a b : List Literal) (one z : Literal) → IsOne f one → z ≡ opposite one → MakesWord f f (replicate (length a) z) (length a) (3 * length a * 0) (λ v. product_at (length a) (number v a) (number v (take 0 b)))
product_none f a b one z o ez = record {
  extends = extends_same f;
  variables = omega arith;
  size = length-replicate (length a) z;
  below = IsBelow-replicate f.variables (length a) z (omega (arith, o.below, ap (λ (l : Literal). l.variable) ez));
  value = λ v y. number-zeros v z (ap (truth_of v) ez ∙ zero_is o v y) (length a) ∙ sym (none (number v a) (2 ^ length a) (pow_pos (length a)));
} where
  none : (a p : ℕ) → 0 < p → a * 0 % p ≡ 0
  none a p h = let e : a * 0 ≡ 0 = omega arith in rw e (mod-eq_of_lt {n = 0} {m = p} h)

pub product_more : {f g h : ClauseSet} (a b product next : List Literal) (at : ℕ) (c : Literal) → MakesWord f g product (length a) (3 * length a * at) (λ v. product_at (length a) (number v a) (number v (take at b))) → at < length b → c ≡ get_or b at c → MakesWord g h next (length a) (3 * length a) (λ v. sum_at (length a) (number v product) (bit (truth_of v c) * left_shift_at (length a) (number v a) at)) → MakesWord f h next (length a) (3 * length a * (at + 1)) (λ v. product_at (length a) (number v a) (number v (take (at + 1) b)))
product_more {f} {g} {h} a b product next at c i hb ec w = record {
  extends = extends_trans i.extends w.extends;
  variables = omega (arith, i.variables, w.variables, costs f.variables (3 * length a) at);
  size = w.size;
  below = w.below;
  value = λ v y.
      w.value v y
      ∙ ap (λ n. (number v product + bit (truth_of v c) * n) % 2 ^ length a) (left_shift-multiplies (length a) (number v a) at)
      ∙ more (truth_of v c) (2 ^ length a) (number v a) (number v (take at b)) (2 ^ at) (number v product) (i.value v (extends_keeps w.extends v y))
      ∙ ap (λ n. number v a * n % 2 ^ length a) (sym (number-next v b at c hb ec));
}

pub product_all : {f g : ClauseSet} (a b product : List Literal) (at : ℕ) → MakesWord f g product (length a) (3 * length a * at) (λ v. product_at (length a) (number v a) (number v (take at b))) → at ≡ length b → length a ≡ length b → MakesWord f g product (length a) (3 * length a * length a) (λ v. product_at (length a) (number v a) (number v b))
product_all a b product at w e same =
    let cost : 3 * length a * at ≤ 3 * length a * length a = let k : at ≡ length a = e ∙ sym same in rw k (omega arith) in
    word_as product (length a) (3 * length a * length a) _ w w.size cost w.below (λ v y p. p ∙ ap (λ xs. product_at (length a) (number v a) (number v xs)) (take_all at b (omega arith)))

pub room_left : (s f k m at : ℕ) → s ≤ f + k * at → at < m → f + k * m ≤ 2 ^ 30 → s + k ≤ 2 ^ 30
room_left s f k m at e h room = omega (arith, mul-le k (at + 1) k m (omega arith) (omega arith), costs f k at)
