-- Shifts by stages.
use Rattle.std.proofs.Common.{◌≡◌, ℕ, zero, suc, ◌+◌, ◌*◌, ◌-◌, ◌/◌, ◌^◌, ◌%◌, ◌<◌, ◌≤◌, List, length, get_or, take, drop, replicate, map, refl, sym, ◌∙◌, ap, ap₂, arith, inl, inr, Bool, true, false, ◌&&◌, cond, eqb, length-append, length-drop, add-one, mul_assoc, mul_comm}
use Rattle.std.proofs.Math.Nat.{pow-suc, mod-eq_of_lt, min-eq_right, mul-mod_left, div-one, div-eq_of_lt, add-mul-mod_self_right}
use Rattle.std.proofs.Math.Pow.{pow_mono}
use Rattle.std.proofs.lemmas.Bool.{cases_lt, eq-eqb, eqb-true, both_ways, cond-true, cond-false, lt-ltb, le-ltb}
use Rattle.std.proofs.lemmas.List.{length-take-le, length-replicate, length-map}
use Rattle.std.proofs.lemmas.List.Elements.{All-drop}
use Rattle.std.proofs.lemmas.Nat.{mul-mod_first, mul-le, pow-add, pow_pos, shr-shr}
use Rattle.civl_bits.specs.Word.{left_shift_at, right_shift_at, arithmetic_right_shift_at, complement_at}
use Rattle.civl_bits.proofs.Moves.{left_shift-multiplies, right_shift-divides, right_shift-lt}
use Rattle.civl_cnf.specs.Literal.{Literal, truth_of, opposite}
use Rattle.civl_cnf.specs.ClauseSet.{ClauseSet, IsBelow}
use Rattle.civl_cnf.specs.Gates.{bit}
use Rattle.civl_cnf.proofs.Extending.{extends_same, extends_trans, extends_keeps}
use Rattle.civl_circuits.specs.Circuits.{number, IsOne, MakesWord, MakesBit}
use Rattle.civl_circuits.specs.inner.Shift.{shifted, shifted_word}
use Rattle.civl_circuits.specs.declared.shifting.Direction.{Direction}
use Rattle.civl_circuits.specs.declared.shifting.Direction.TheVariants as direction
use Rattle.civl_circuits.proofs.Numbers.{number-append, number-next, number-lt, number-low, number-split, number-high, number-top, number-zeros}
use Rattle.civl_circuits.proofs.Words.{IsBelow-append, IsBelow-take, IsBelow-replicate, word_as, zero_is}

-- the laws of shifts in either direction
moved_none : (d : Direction) (w a : ℕ) → a < 2 ^ w → shifted d w a 0 ≡ a
moved_none direction.Up w a h = left_shift-multiplies w a 0 ∙ ap (λ k. k % 2 ^ w) (once a) ∙ mod-eq_of_lt h where
  once : (n : ℕ) → n * 1 ≡ n
  once n = omega arith
moved_none direction.Down w a h = right_shift-divides w a 0 h ∙ div-one a

moved_again : (d : Direction) (w a x y : ℕ) → a < 2 ^ w → shifted d w (shifted d w a x) y ≡ shifted d w a (x + y)
moved_again direction.Up w a x y h =
    left_shift-multiplies w (left_shift_at w a x) y
    ∙ ap (λ k. k * 2 ^ y % 2 ^ w) (left_shift-multiplies w a x)
    ∙ mul-mod_first (a * 2 ^ x) (2 ^ y) (2 ^ w)
    ∙ ap (λ m. m % 2 ^ w) (mul_assoc a (2 ^ x) (2 ^ y) ∙ ap (λ m. a * m) (sym (pow-add 2 x y)))
    ∙ sym (left_shift-multiplies w a (x + y))
moved_again direction.Down w a x y h =
    right_shift-divides w (right_shift_at w a x) y (right_shift-lt w a x h)
    ∙ ap (λ k. k / 2 ^ y) (right_shift-divides w a x h)
    ∙ shr-shr a x y
    ∙ sym (right_shift-divides w a (x + y) h)

moved_out : (d : Direction) (w a x : ℕ) → a < 2 ^ w → w ≤ x → shifted d w a x ≡ 0
moved_out direction.Up w a x h l = ap (λ k. a * 2 ^ k % 2 ^ w) (min-eq_right {n = w} {m = x} l) ∙ mul-mod_left a (2 ^ w)
moved_out direction.Down w a x h l = ap (λ k. a / 2 ^ k) (min-eq_right {n = w} {m = x} l) ∙ div-eq_of_lt h

low_part : (lo high p q n d : ℕ) → n ≡ lo + q * high → (lo + q * high) * d ≡ lo * d + high * p → lo * d < p → n * d % p ≡ lo * d
low_part lo high p q n d e f h = ap (λ k. k * d % p) e ∙ ap (λ k. k % p) f ∙ add-mul-mod_self_right (lo * d) high p ∙ mod-eq_of_lt h

-- a word moved by at most its width
pub number-moved : (v : ℕ → Bool) (d : Direction) (z : Literal) (a : List Literal) (places : ℕ) → truth_of v z ≡ false → places ≤ length a → number v (shifted_word d z a places) ≡ shifted d (length a) (number v a) places
number-moved v direction.Up z a places off h =
    let k : ℕ = length a - places in
    let split = number-split v k a (omega arith) in
    let width : k + places ≡ length a = omega arith in
    let power : 2 ^ length a ≡ 2 ^ k * 2 ^ places = ap (λ n. 2 ^ n) (sym width) ∙ pow-add 2 k places in
    number-append v (replicate places z) (take k a)
    ∙ ap₂ (λ n m. n + 2 ^ m * number v (take k a)) (number-zeros v z off places) (length-replicate places z)
    ∙ turned (2 ^ places) (number v (take k a))
    ∙ sym (low_part (number v (take k a)) (number v (drop k a)) (2 ^ length a) (2 ^ k) (number v a) (2 ^ places) split
    (distribute (number v (take k a)) (2 ^ k) (number v (drop k a)) (2 ^ places) ∙ ap (λ p. number v (take k a) * 2 ^ places + number v (drop k a) * p) (sym power))
    (rw power (scaled (number v (take k a)) (2 ^ k) (2 ^ places) (number-low v k a (omega arith)) (pow_pos places))))
    ∙ sym (left_shift-multiplies (length a) (number v a) places)
  where
    turned : (p n : ℕ) → 0 + p * n ≡ n * p
    turned p n = omega (arith, mul_comm p n)

    distribute : (n q m d : ℕ) → (n + q * m) * d ≡ n * d + m * (q * d)
    distribute n q m d = grind arith

    scaled : (n q d : ℕ) → n < q → 0 < d → n * d < q * d
    scaled n q d h l = grind arith
number-moved v direction.Down z a places off h =
    number-append v (drop places a) (replicate places z)
    ∙ ap (λ k. number v (drop places a) + 2 ^ length (drop places a) * k) (number-zeros v z off places)
    ∙ plain (number v (drop places a)) (2 ^ length (drop places a))
    ∙ number-high v places a h
    ∙ sym (right_shift-divides (length a) (number v a) places (number-lt v a)) where
      plain : (n p : ℕ) → n + p * 0 ≡ n
      plain n p = omega arith

pub length-moved : (d : Direction) (z : Literal) (a : List Literal) (places : ℕ) → places ≤ length a → length (shifted_word d z a places) ≡ length a
length-moved direction.Up z a places h = length-append (replicate places z) (take (length a - places) a) ∙ omega (arith, length-replicate places z, length-take-le (length a - places) a (omega arith))
length-moved direction.Down z a places h = length-append (drop places a) (replicate places z) ∙ omega (arith, length-replicate places z, length-drop places a)

pub IsBelow-moved : (n : ℕ) (d : Direction) (z : Literal) (a : List Literal) (places : ℕ) → z.variable < n → IsBelow n a → IsBelow n (shifted_word d z a places)
IsBelow-moved n direction.Up z a places h below = IsBelow-append n (replicate places z) (take (length a - places) a) (IsBelow-replicate n places z h) (IsBelow-take n (length a - places) a below)
IsBelow-moved n direction.Down z a places h below = IsBelow-append n (drop places a) (replicate places z) (All-drop (λ l. l.variable < n) places a below) (IsBelow-replicate n places z h)

pub staged : {f g : ClauseSet} {r : List Literal} (d : Direction) (a away : List Literal) (places : ℕ) (one z c : Literal) → MakesWord f g r (length away) (length away) (λ v. cond (truth_of v c) (number v away) (number v a)) → away ≡ shifted_word d z a places → IsOne f one → z ≡ opposite one → places ≤ length a → MakesWord f g r (length a) (length a) (λ v. cond (truth_of v c) (shifted d (length a) (number v a) places) (number v a))
staged {f} {g} {r} d a away places one z c w e o ez h =
    let same : length away ≡ length a = ap length e ∙ length-moved d z a places h in
    word_as r (length a) (length a) _ w (w.size ∙ same) (omega (arith, same)) w.below
    (λ v y p.
    let off : truth_of v z ≡ false = ap (truth_of v) ez ∙ zero_is o v (extends_keeps w.extends v y) in
    p ∙ ap (λ n. cond (truth_of v c) n (number v a)) (ap (number v) e ∙ number-moved v d z a places off h))

-- moved by the amount's bits below `at`
pub record IsMoved (d : Direction) (first now : ClauseSet) (a b : List Literal) (at distance : ℕ) (word : List Literal) : Type 0 where
  pub place : at ≤ length b
  pub few : at ≤ 5
  pub step : distance ≡ 2 ^ at
  pub made : MakesWord first now word (length a) (length a * at) (λ v. shifted d (length a) (number v a) (number v (take at b)))

pub is_moved_none : (d : Direction) (f : ClauseSet) (a b : List Literal) → IsBelow f.variables a → IsMoved d f f a b 0 1 a
is_moved_none d f a b below = record {
  place = omega arith;
  few = omega arith;
  step = refl;
  made = record {
    extends = extends_same f;
    variables = omega arith;
    size = refl;
    below = below;
    value = λ v y. sym (moved_none d (length a) (number v a) (number-lt v a));
  };
}

below_power : (n : ℕ) → n < 2 ^ n
below_power zero = omega arith
below_power (suc n) = omega (arith, below_power n, pow-suc 2 n)

pub is_early : (at distance n : ℕ) → distance ≡ 2 ^ at → distance < n → n ≤ 32 → (at < 5) × (at < n)
is_early at distance n e near narrow = (
  elim (cases_lt at 5) [
    | inl h ↦ h
    | inr h ↦ absurd (omega (arith, pow_mono {i = 5} {j = at} h))
  ],
  omega (arith, below_power at),
)

further : (d : Direction) (c : Bool) (w a x places : ℕ) → a < 2 ^ w → cond c (shifted d w (shifted d w a x) places) (shifted d w a x) ≡ shifted d w a (x + places * bit c)
further d true w a x places h = moved_again d w a x places h ∙ ap (shifted d w a) (sum x places) where
  sum : (x p : ℕ) → x + p ≡ x + p * 1
  sum x p = omega arith
further d false w a x places h = ap (shifted d w a) (same x places) where
  same : (x p : ℕ) → x ≡ x + p * 0
  same x p = omega arith

costs : (f n at : ℕ) → f + n * at + n ≡ f + n * (at + 1)
costs f n at = grind arith

pub is_moved_more : {f g h : ClauseSet} (d : Direction) (a b word next : List Literal) (at distance : ℕ) (c : Literal) → IsMoved d f g a b at distance word → distance < length a → length a ≤ 32 → length a ≡ length b → c ≡ get_or b at c → MakesWord g h next (length word) (length word) (λ v. cond (truth_of v c) (shifted d (length word) (number v word) distance) (number v word)) → IsMoved d f h a b (at + 1) (distance * 2) next
is_moved_more {f} {g} {h} d a b word next at distance c i near wide same ec w =
    let early = is_early at distance (length a) i.step near wide in
    let hb : at < length b = omega (arith, early.1) in
    record {
      place = omega arith;
      few = omega (arith, early.0);
      step = rw (add-one at, pow-suc 2 at) (ap (λ k. k * 2) i.step);
      made = record {
        extends = extends_trans i.made.extends w.extends;
        variables = omega (arith, i.made.variables, w.variables, i.made.size, costs f.variables (length a) at);
        size = w.size ∙ i.made.size;
        below = w.below;
        value = λ v y.
            w.value v y
            ∙ ap₂ (λ k n. cond (truth_of v c) (shifted d k n distance) n) i.made.size (i.made.value v (extends_keeps w.extends v y))
            ∙ further d (truth_of v c) (length a) (number v a) (number v (take at b)) distance (number-lt v a)
            ∙ ap (λ p. shifted d (length a) (number v a) (number v (take at b) + p * bit (truth_of v c))) i.step
            ∙ ap (shifted d (length a) (number v a)) (sym (number-next v b at c hb ec));
      };
    }

masked_shift : (d : Direction) (t : Bool) (w a x places high : ℕ) → a < 2 ^ w → t ≡ eqb high 0 → w ≤ places → bit t * shifted d w a x ≡ shifted d w a (x + places * high)
masked_shift d true w a x places high h e far =
    let none : high ≡ 0 = eqb-true high 0 (sym e) in
    once (shifted d w a x) ∙ ap (shifted d w a) (stays x places) ∙ ap (λ k. shifted d w a (x + places * k)) (sym none) where
      once : (k : ℕ) → 1 * k ≡ k
      once k = omega arith

      stays : (x p : ℕ) → x ≡ x + p * 0
      stays x p = omega arith
masked_shift d false w a x places high h e far =
    let some : (high ≡ 0) → ⊥ = λ z. absurd (both_ways (eqb high 0) (sym e) (eq-eqb high 0 z)) in
    gone (shifted d w a x) ∙ sym (moved_out d w a (x + places * high) h (at_least w x places high some far)) where
      gone : (k : ℕ) → 0 * k ≡ 0
      gone k = omega arith

      at_least : (n x d h : ℕ) → ((h ≡ 0) → ⊥) → n ≤ d → n ≤ x + d * h
      at_least n x d zero ne w = absurd (ne refl)
      at_least n x d (suc h) ne w = grind arith

total : (n at m b : ℕ) → at ≤ 5 → m ≤ n → b ≤ n → n * at + m + b ≤ 7 * n
total n at m b few hm hb = omega (arith, mul-le n at n 5 (omega arith) few)

pub is_moved_all : {f g m h : ClauseSet} (d : Direction) (a b word r : List Literal) (at distance : ℕ) (none : Literal) → IsMoved d f g a b at distance word → length a ≤ distance → length a ≡ length b → MakesBit g m none (length (drop at b)) (λ v. eqb (number v (drop at b)) 0) → MakesWord m h r (length word) (length word) (λ v. bit (truth_of v none) * number v word) → MakesWord f h r (length a) (7 * length a) (λ v. shifted d (length a) (number v a) (number v b))
is_moved_all {f} {g} {m} {h} d a b word r at distance none i far same t w = record {
  extends = extends_trans i.made.extends (extends_trans t.extends w.extends);
  variables = omega (arith, i.made.variables, t.variables, w.variables, i.made.size, total (length a) at (length (drop at b)) (length word) i.few (omega (arith, length-drop at b)) (omega (arith, i.made.size)));
  size = w.size ∙ i.made.size;
  below = w.below;
  value = λ v y.
      let before = extends_keeps w.extends v y in
      let whole : number v (take at b) + distance * number v (drop at b) ≡ number v b =
      ap (λ k. number v (take at b) + k * number v (drop at b)) i.step ∙ sym (number-split v at b i.place) in
      w.value v y
      ∙ ap (λ k. bit (truth_of v none) * k) (i.made.value v (extends_keeps t.extends v before))
      ∙ masked_shift d (truth_of v none) (length a) (number v a) (number v (take at b)) distance (number v (drop at b)) (number-lt v a) (t.value v before) far
      ∙ ap (shifted d (length a) (number v a)) whole;
}

pub stage_room : (s f n at : ℕ) → s ≤ f + n * at → at ≤ 5 → f + 7 * n ≤ 2 ^ 30 → s + n + n ≤ 2 ^ 30
stage_room s f n at e few room = omega (arith, mul-le n at n 5 (omega arith) few)

-- one bit of a masked word
distribute_bit : (c x : Bool) (n p : ℕ) → bit c * n + p * bit (c && x) ≡ bit c * (n + p * bit x)
distribute_bit true true n p = omega arith
distribute_bit true false n p = omega arith
distribute_bit false true n p = omega arith
distribute_bit false false n p = omega arith

pub masked_more : (v : ℕ → Bool) (c : Bool) (a : List Literal) (i : ℕ) (x : Literal) → i < length a → x ≡ get_or a i x → bit c * number v (take i a) + 2 ^ i * bit (c && truth_of v x) ≡ bit c * number v (take (i + 1) a)
masked_more v c a i x h e = distribute_bit c (truth_of v x) (number v (take i a)) (2 ^ i) ∙ ap (λ n. bit c * n) (sym (number-next v a i x h e))

pub turned_made : {f g : ClauseSet} {r : List Literal} (a flipped : List Literal) (c : Literal) → MakesWord f g r (length flipped) (length flipped) (λ v. cond (truth_of v c) (number v flipped) (number v a)) → flipped ≡ map opposite a → ((v : ℕ → Bool) → number v flipped ≡ complement_at (length a) (number v a)) → MakesWord f g r (length a) (length a) (λ v. cond (truth_of v c) (complement_at (length a) (number v a)) (number v a))
turned_made {f} {g} {r} a flipped c w e is =
    let same : length flipped ≡ length a = ap length e ∙ length-map a opposite in
    word_as r (length a) (length a) _ w (w.size ∙ same) (omega (arith, same)) w.below (λ v y p. p ∙ ap (λ n. cond (truth_of v c) n (number v a)) (is v))

by_top : (t : Bool) (p w a b low : ℕ) → a ≡ low + p * bit t → low < p → p ≡ 2 ^ (w - 1) → cond t (complement_at w (right_shift_at w (cond t (complement_at w a) a) b)) (right_shift_at w (cond t (complement_at w a) a) b) ≡ arithmetic_right_shift_at w a b
by_top true p w a b low e h ep = sym (cond-false _ (right_shift_at w a b) (complement_at w (right_shift_at w (complement_at w a) b)) (le-ltb a (2 ^ (w - 1)) (omega arith)))
by_top false p w a b low e h ep = sym (cond-true _ (right_shift_at w a b) (complement_at w (right_shift_at w (complement_at w a) b)) (lt-ltb a (2 ^ (w - 1)) (omega arith)))

pub arithmetic_made : {f g h k : ClauseSet} {r : List Literal} (a b turned moved : List Literal) (top : Literal) → MakesWord f g turned (length a) (length a) (λ v. cond (truth_of v top) (complement_at (length a) (number v a)) (number v a)) → MakesWord g h moved (length turned) (7 * length turned) (λ v. right_shift_at (length turned) (number v turned) (number v b)) → MakesWord h k r (length moved) (length moved) (λ v. cond (truth_of v top) (complement_at (length moved) (number v moved)) (number v moved)) → 1 ≤ length a → top ≡ get_or a (length a - 1) top → MakesWord f k r (length a) (9 * length a) (λ v. arithmetic_right_shift_at (length a) (number v a) (number v b))
arithmetic_made {f} {g} {h} {k} {r} a b turned moved top first second third narrow et =
    let same : length moved ≡ length a = second.size ∙ first.size in
    record {
      extends = extends_trans first.extends (extends_trans second.extends third.extends);
      variables = omega (arith, first.variables, second.variables, third.variables, first.size, second.size);
      size = third.size ∙ same;
      below = third.below;
      value = λ v y.
          let before = extends_keeps third.extends v y in
          let earlier = extends_keeps second.extends v before in
          let w : ℕ = length a in
          let low : number v (take (w - 1) a) < 2 ^ (w - 1) = number-low v (w - 1) a (omega arith) in
          let is : number v moved ≡ right_shift_at w (cond (truth_of v top) (complement_at w (number v a)) (number v a)) (number v b) =
          second.value v before ∙ ap₂ (λ n x. right_shift_at n x (number v b)) first.size (first.value v earlier) in
          third.value v y
          ∙ ap₂ (λ n x. cond (truth_of v top) (complement_at n x) x) same is
          ∙ by_top (truth_of v top) (2 ^ (w - 1)) w (number v a) (number v b) (number v (take (w - 1) a)) (number-top v (w - 1) a top (omega arith) et) low refl;
    }
