-- The ripple-carry adder.
use Rattle.std.proofs.Common.{◌≡◌, ℕ, ◌+◌, ◌*◌, ◌-◌, ◌^◌, ◌%◌, ◌<◌, ◌≤◌, List, [], ◌∷◌, ◌++◌, length, get_or, take, replicate, refl, sym, ◌∙◌, ap, ap₂, arith, Bool, length-append, add-one}
use Rattle.std.proofs.Math.Nat.{pow-suc}
use Rattle.std.proofs.lemmas.List.{take_all, length-take-le, length-replicate}
use Rattle.std.proofs.lemmas.List.Elements.{All-nil, All-push}
use Rattle.civl_bits.specs.Word.{sum_at, difference_at, negative_at, complement_at}
use Rattle.civl_cnf.specs.Literal.{Literal, truth_of, opposite}
use Rattle.civl_cnf.specs.ClauseSet.{ClauseSet, IsBelow, Satisfies}
use Rattle.civl_cnf.specs.Gates.{Extends, bit}
use Rattle.civl_cnf.proofs.Extending.{extends_same, extends_trans, extends_keeps}
use Rattle.civl_circuits.specs.Circuits.{number, IsOne, MakesWord}
use Rattle.civl_circuits.specs.inner.Folding.{MakesSum}
use Rattle.civl_circuits.proofs.Numbers.{number-push, number-next, number-take, number-lt, number-zeros}
use Rattle.civl_circuits.proofs.Words.{IsBelow-more, IsBelow-take, zero_is, word_as}

-- products of variables
one_more : (n p s k x y c m : ℕ) → s + 2 * k ≡ x + y + c → n + p * c ≡ m → (n + p * s) + (p * 2) * k ≡ m + p * x + p * y
one_more n p s k x y c m e h = let f : p * (s + 2 * k) ≡ p * (x + y + c) = ap (λ z. p * z) e in grind arith

-- the sum of the low bits, with the carry out of them
pub record IsSum (first now : ClauseSet) (a b : List Literal) (carry : Literal) (at : ℕ) (sum : List Literal) (rest : Literal) : Type 0 where
  pub extends : Extends first now
  pub variables : now.variables ≤ first.variables + 2 * at
  pub size : length sum ≡ at
  pub below : IsBelow now.variables sum
  pub below_rest : rest.variable < now.variables
  pub value : (v : ℕ → Bool) → Satisfies v now.clauses → number v sum + 2 ^ at * bit (truth_of v rest) ≡ number v (take at a) + number v (take at b) + bit (truth_of v carry)

pub sum_none : (f : ClauseSet) (a b : List Literal) (c : Literal) → c.variable < f.variables → IsSum f f a b c 0 [] c
sum_none f a b c h = record {
  extends = extends_same f;
  variables = omega arith;
  size = refl;
  below = All-nil (λ l. l.variable < f.variables);
  below_rest = h;
  value = λ v t. omega arith;
}

pub sum_more : (f g n : ClauseSet) (a b : List Literal) (c : Literal) (at : ℕ) (sum : List Literal) (rest s k x y : Literal) → IsSum f g a b c at sum rest → at < length a → at < length b → x ≡ get_or a at x → y ≡ get_or b at y → MakesSum g n x y rest s k → IsSum f n a b c (at + 1) (sum ++ s ∷ []) k
sum_more f g n a b c at sum rest s k x y i la lb ex ey adder = record {
  extends = extends_trans i.extends adder.extends;
  variables = omega (arith, i.variables, adder.variables);
  size = length-append sum (s ∷ []) ∙ ap (λ z. z + 1) i.size;
  below = All-push (λ l. l.variable < n.variables) sum s (IsBelow-more g.variables n.variables sum (omega (arith, adder.variables)) i.below) adder.sum_below;
  below_rest = adder.carry_below;
  value = λ v t.
      let before = i.value v (extends_keeps adder.extends v t) in
      let here : number v (sum ++ s ∷ []) ≡ number v sum + 2 ^ at * bit (truth_of v s) =
      number-push v sum s ∙ ap (λ z. number v sum + 2 ^ z * bit (truth_of v s)) i.size in
      let ax : number v (take (at + 1) a) ≡ number v (take at a) + 2 ^ at * bit (truth_of v x) =
      number-next v a at x la ex in
      let bx : number v (take (at + 1) b) ≡ number v (take at b) + 2 ^ at * bit (truth_of v y) =
      number-next v b at y lb ey in
      let arithmetic = one_more (number v sum) (2 ^ at) (bit (truth_of v s)) (bit (truth_of v k)) (bit (truth_of v x)) (bit (truth_of v y)) (bit (truth_of v rest)) (number v (take at a) + number v (take at b) + bit (truth_of v c)) (adder.count_is v t) before in
      rw (here, ax, bx, add-one at, pow-suc 2 at) (omega (arith, arithmetic));
}

pub sum_all : (f g : ClauseSet) (a b : List Literal) (c : Literal) (at : ℕ) (sum : List Literal) (rest : Literal) → IsSum f g a b c at sum rest → at ≡ length a → length a ≡ length b → MakesWord f g (sum ++ rest ∷ []) (length a + 1) (2 * length a) (λ v. number v a + number v b + bit (truth_of v c))
sum_all f g a b c at sum rest i ea eb = record {
  extends = i.extends;
  variables = omega (arith, i.variables);
  size = length-append sum (rest ∷ []) ∙ ap (λ z. z + 1) (i.size ∙ ea);
  below = All-push (λ l. l.variable < g.variables) sum rest i.below i.below_rest;
  value = λ v t.
      number-push v sum rest ∙ ap (λ z. number v sum + 2 ^ z * bit (truth_of v rest)) i.size ∙ i.value v t
      ∙ ap₂ (λ (p q : List Literal). number v p + number v q + bit (truth_of v c)) (take_all at a (omega arith)) (take_all at b (omega arith));
}

-- a sum cut to the width of its words
pub sum_cut : {f g : ClauseSet} {sum : List Literal} {old : (ℕ → Bool) → ℕ} (n cost : ℕ) (cut : List Literal) (new : (ℕ → Bool) → ℕ) → MakesWord f g sum (n + 1) cost old → cut ≡ take n sum → ((v : ℕ → Bool) → Satisfies v g.clauses → old v % 2 ^ n ≡ new v) → MakesWord f g cut n cost new
sum_cut {f} {g} {sum} n cost cut new w e so =
    rw e (word_as (take n sum) n cost new w (length-take-le n sum (omega (arith, w.size))) (omega arith) (IsBelow-take g.variables n sum w.below)
    (λ v y is. number-take v n sum (omega (arith, w.size)) ∙ ap (λ k. k % 2 ^ n) is ∙ so v y))

pub no_carry : {f g : ClauseSet} {one z : Literal} (n : ℕ) → IsOne f one → Extends f g → z ≡ opposite one → (v : ℕ → Bool) → Satisfies v g.clauses → (x y : ℕ) → (x + y + bit (truth_of v z)) % 2 ^ n ≡ sum_at n x y
no_carry n o e ez v h x y = ap (λ b. (x + y + bit b) % 2 ^ n) (ap (truth_of v) ez ∙ zero_is o v (extends_keeps e v h)) ∙ ap (λ k. k % 2 ^ n) (plain (x + y)) where
  plain : (n : ℕ) → n + 0 ≡ n
  plain n = omega arith

complement_and_one : (p x y f : ℕ) → y < p → f ≡ p - 1 - y → x + f + 1 ≡ x + (p - y)
complement_and_one p x y f h e = omega arith

pub with_complement : {f g : ClauseSet} {one : Literal} (v : ℕ → Bool) (x : ℕ) (b flipped : List Literal) (n : ℕ) → IsOne f one → Extends f g → n ≡ length b → ((v : ℕ → Bool) → number v flipped ≡ complement_at (length b) (number v b)) → Satisfies v g.clauses → (x + number v flipped + bit (truth_of v one)) % 2 ^ n ≡ difference_at n x (number v b)
with_complement v x b flipped n o e en turned h =
    let one_is = o.always v (extends_keeps e v h) in
    let power : 2 ^ n ≡ 2 ^ length b = ap (λ k. 2 ^ k) en in
    ap (λ t. (x + number v flipped + bit t) % 2 ^ n) one_is
    ∙ ap (λ k. k % 2 ^ n) (complement_and_one (2 ^ n) x (number v b) (number v flipped) (omega (arith, number-lt v b, power)) (turned v ∙ ap (λ p. p - 1 - number v b) (sym power)))

-- the difference from 0
pub negative_made : {f g : ClauseSet} {r : List Literal} (a zeros : List Literal) (z one : Literal) → MakesWord f g r (length zeros) (2 * length zeros) (λ v. difference_at (length zeros) (number v zeros) (number v a)) → zeros ≡ replicate (length a) z → z ≡ opposite one → IsOne f one → MakesWord f g r (length a) (2 * length a) (λ v. negative_at (length a) (number v a))
negative_made {f} {g} {r} a zeros z one w ez eo o =
    let same : length zeros ≡ length a = ap length ez ∙ length-replicate (length a) z in
    word_as r (length a) (2 * length a) _ w (w.size ∙ same) (omega (arith, same)) w.below
    (λ v h is.
    let nothing : number v zeros ≡ 0 = ap (number v) ez ∙ number-zeros v z (ap (truth_of v) eo ∙ zero_is o v (extends_keeps w.extends v h)) (length a) in
    is ∙ ap₂ (λ n x. difference_at n x (number v a)) same nothing ∙ ap (λ k. k % 2 ^ length a) (plain (2 ^ length a - number v a))) where
      plain : (n : ℕ) → 0 + n ≡ n
      plain n = omega arith
