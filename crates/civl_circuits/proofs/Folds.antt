-- Gates that fewer operands do for.
use Rattle.std.proofs.Common.{◌≡◌, ℕ, ◌+◌, ◌<◌, ◌⊎◌, refl, sym, ◌∙◌, ap, ap₂, arith, inl, inr, Bool, true, false, not, ◌&&◌, ◌||◌, cond}
use Rattle.std.specs.Prelude.{IsTrue}
use Rattle.std.proofs.Math.Bool.{and-false}
use Rattle.civl_cnf.specs.Literal.{Literal, opposite, truth_of}
use Rattle.civl_cnf.specs.Gates.{bit, xor}
use Rattle.civl_cnf.proofs.Extending.{truth_of-opposite}
use Rattle.civl_circuits.specs.inner.Folding.{Folds, AreApart, ReducesChoice, ReducesAddition, IsPair, IsTriple}
use Rattle.civl_circuits.specs.declared.folding.Choice.TheVariants as choice
use Rattle.civl_circuits.specs.declared.folding.Addition.TheVariants as addition

is_on : {one a : Literal} (v : ℕ → Bool) → IsTrue (truth_of v one) → a ≡ one → truth_of v a ≡ true
is_on v t e = ap (truth_of v) e ∙ t

is_off : (one : Literal) {a : Literal} (v : ℕ → Bool) → IsTrue (truth_of v one) → a ≡ opposite one → truth_of v a ≡ false
is_off one v t e = ap (truth_of v) e ∙ truth_of-opposite v one ∙ ap not t

pub is_not : {a : Literal} (b : Literal) (v : ℕ → Bool) → a ≡ opposite b → truth_of v a ≡ not (truth_of v b)
is_not b v e = ap (truth_of v) e ∙ truth_of-opposite v b

pub below_as : {a b : Literal} (n : ℕ) → a ≡ b → b.variable < n → a.variable < n
below_as n e h = omega (arith, h, ap (λ (l : Literal). l.variable) e)

pub below_not : {a : Literal} (b : Literal) (n : ℕ) → a ≡ opposite b → b.variable < n → a.variable < n
below_not b n e h = omega (arith, h, ap (λ (l : Literal). l.variable) e)

-- two literals of one variable
same_or_not : (p q : Bool) → (p ≡ q) ⊎ (p ≡ not q)
same_or_not true true = inl refl
same_or_not true false = inr refl
same_or_not false true = inr refl
same_or_not false false = inl refl

one_variable : (a b : Literal) → a.variable ≡ b.variable → (a ≡ b) ⊎ (a ≡ opposite b)
one_variable a b h =
    let made : ℕ → Bool → Literal = λ n p. record { variable = n; positive = p } in
    elim (same_or_not a.positive b.positive) [
      | inl e ↦ inl (ap₂ made h e)
      | inr e ↦ inr (ap₂ made h e)
    ]

two_variables : (a b : Literal) → (a ≡ b → ⊥) → (a ≡ opposite b → ⊥) → a.variable ≡ b.variable → ⊥
two_variables a b ne apart h = elim (one_variable a b h) [
  | inl e ↦ absurd (ne e)
  | inr e ↦ absurd (apart e)
]

pub are_apart : (one a b : Literal) → (a ≡ one → ⊥) → (a ≡ opposite one → ⊥) → (b ≡ one → ⊥) → (b ≡ opposite one → ⊥) → (a ≡ b → ⊥) → (a ≡ opposite b → ⊥) → AreApart one a b
are_apart one a b a1 a0 b1 b0 ne apart = record {
  first = two_variables a one a1 a0;
  second = two_variables b one b1 b0;
  both = two_variables a b ne apart;
}

and_on : (x : Bool) → x ≡ (x && true)
and_on true = refl
and_on false = refl

and_self : (x : Bool) → x ≡ (x && x)
and_self true = refl
and_self false = refl

and_other : (x : Bool) → false ≡ (not x && x)
and_other true = refl
and_other false = refl

pub and_first_on : (one a b : Literal) → a ≡ one → Folds one a b b (λ x y. x && y)
and_first_on one a b e = record {
  below = λ n ho ha hb. hb;
  value = λ v t. sym (ap (λ x. x && truth_of v b) (is_on v t e));
}

pub and_first_off : (one a b : Literal) → a ≡ opposite one → Folds one a b a (λ x y. x && y)
and_first_off one a b e = record {
  below = λ n ho ha hb. ha;
  value = λ v t. is_off one v t e ∙ sym (ap (λ x. x && truth_of v b) (is_off one v t e));
}

pub and_second_on : (one a b : Literal) → b ≡ one → Folds one a b a (λ x y. x && y)
and_second_on one a b e = record {
  below = λ n ho ha hb. ha;
  value = λ v t. and_on (truth_of v a) ∙ sym (ap (λ y. truth_of v a && y) (is_on v t e));
}

pub and_second_off : (one a b : Literal) → b ≡ opposite one → Folds one a b b (λ x y. x && y)
and_second_off one a b e = record {
  below = λ n ho ha hb. hb;
  value = λ v t. is_off one v t e ∙ sym (ap (λ y. truth_of v a && y) (is_off one v t e) ∙ and-false (truth_of v a));
}

pub and_same : (one a b : Literal) → a ≡ b → Folds one a b a (λ x y. x && y)
and_same one a b e = record {
  below = λ n ho ha hb. ha;
  value = λ v t. and_self (truth_of v a) ∙ ap (λ y. truth_of v a && y) (ap (truth_of v) e);
}

pub and_not : (one a b r : Literal) → r ≡ opposite one → a ≡ opposite b → Folds one a b r (λ x y. x && y)
and_not one a b r er e = record {
  below = λ n ho ha hb. below_not one n er ho;
  value = λ v t. is_off one v t er ∙ and_other (truth_of v b) ∙ sym (ap (λ x. x && truth_of v b) (is_not b v e));
}

pub ruleset and_folds = (and_first_on, and_first_off, and_second_on, and_second_off, and_same, and_not, are_apart)

xor_on : (x : Bool) → not x ≡ xor x true
xor_on true = refl
xor_on false = refl

xor_off : (x : Bool) → x ≡ xor x false
xor_off true = refl
xor_off false = refl

xor_self : (x : Bool) → false ≡ xor x x
xor_self true = refl
xor_self false = refl

xor_other : (x : Bool) → true ≡ xor (not x) x
xor_other true = refl
xor_other false = refl

pub xor_first_on : (one a b r : Literal) → r ≡ opposite b → a ≡ one → Folds one a b r xor
xor_first_on one a b r er e = record {
  below = λ n ho ha hb. below_not b n er hb;
  value = λ v t. is_not b v er ∙ sym (ap (λ x. xor x (truth_of v b)) (is_on v t e));
}

pub xor_first_off : (one a b : Literal) → a ≡ opposite one → Folds one a b b xor
xor_first_off one a b e = record {
  below = λ n ho ha hb. hb;
  value = λ v t. sym (ap (λ x. xor x (truth_of v b)) (is_off one v t e));
}

pub xor_second_on : (one a b r : Literal) → r ≡ opposite a → b ≡ one → Folds one a b r xor
xor_second_on one a b r er e = record {
  below = λ n ho ha hb. below_not a n er ha;
  value = λ v t. is_not a v er ∙ xor_on (truth_of v a) ∙ sym (ap (λ y. xor (truth_of v a) y) (is_on v t e));
}

pub xor_second_off : (one a b : Literal) → b ≡ opposite one → Folds one a b a xor
xor_second_off one a b e = record {
  below = λ n ho ha hb. ha;
  value = λ v t. xor_off (truth_of v a) ∙ sym (ap (λ y. xor (truth_of v a) y) (is_off one v t e));
}

pub xor_same : (one a b r : Literal) → r ≡ opposite one → a ≡ b → Folds one a b r xor
xor_same one a b r er e = record {
  below = λ n ho ha hb. below_not one n er ho;
  value = λ v t. is_off one v t er ∙ xor_self (truth_of v a) ∙ ap (λ y. xor (truth_of v a) y) (ap (truth_of v) e);
}

pub xor_not : (one a b : Literal) → a ≡ opposite b → Folds one a b one xor
xor_not one a b e = record {
  below = λ n ho ha hb. ho;
  value = λ v t. t ∙ xor_other (truth_of v b) ∙ sym (ap (λ x. xor x (truth_of v b)) (is_not b v e));
}

pub ruleset xor_folds = (xor_first_on, xor_first_off, xor_second_on, xor_second_off, xor_same, xor_not, are_apart)

choice_same_table : (x y : Bool) → y ≡ cond x y y
choice_same_table true true = refl
choice_same_table true false = refl
choice_same_table false true = refl
choice_same_table false false = refl

choice_first_on_table : (x y : Bool) → (x || y) ≡ cond x true y
choice_first_on_table true true = refl
choice_first_on_table true false = refl
choice_first_on_table false true = refl
choice_first_on_table false false = refl

choice_first_off_table : (x y : Bool) → (not x && y) ≡ cond x false y
choice_first_off_table true true = refl
choice_first_off_table true false = refl
choice_first_off_table false true = refl
choice_first_off_table false false = refl

choice_second_on_table : (x y : Bool) → (not x || y) ≡ cond x y true
choice_second_on_table true true = refl
choice_second_on_table true false = refl
choice_second_on_table false true = refl
choice_second_on_table false false = refl

choice_second_off_table : (x y : Bool) → (x && y) ≡ cond x y false
choice_second_off_table true true = refl
choice_second_off_table true false = refl
choice_second_off_table false true = refl
choice_second_off_table false false = refl

choice_first_is_table : (x y : Bool) → (x || y) ≡ cond x x y
choice_first_is_table true true = refl
choice_first_is_table true false = refl
choice_first_is_table false true = refl
choice_first_is_table false false = refl

choice_first_not_table : (x y : Bool) → (not x && y) ≡ cond x (not x) y
choice_first_not_table true true = refl
choice_first_not_table true false = refl
choice_first_not_table false true = refl
choice_first_not_table false false = refl

choice_second_is_table : (x y : Bool) → (x && y) ≡ cond x y x
choice_second_is_table true true = refl
choice_second_is_table true false = refl
choice_second_is_table false true = refl
choice_second_is_table false false = refl

choice_second_not_table : (x y : Bool) → (not x || y) ≡ cond x y (not x)
choice_second_not_table true true = refl
choice_second_not_table true false = refl
choice_second_not_table false true = refl
choice_second_not_table false false = refl

pub choice_on : (one c a b : Literal) → c ≡ one → ReducesChoice one c a b (choice.Is a)
choice_on one c a b e = record {
  below = λ n ho hc ha hb. ha;
  value = λ v t. sym (ap (λ x. cond x (truth_of v a) (truth_of v b)) (is_on v t e));
}

pub choice_off : (one c a b : Literal) → c ≡ opposite one → ReducesChoice one c a b (choice.Is b)
choice_off one c a b e = record {
  below = λ n ho hc ha hb. hb;
  value = λ v t. sym (ap (λ x. cond x (truth_of v a) (truth_of v b)) (is_off one v t e));
}

pub choice_same : (one c a b : Literal) → a ≡ b → ReducesChoice one c a b (choice.Is a)
choice_same one c a b e = record {
  below = λ n ho hc ha hb. ha;
  value = λ v t. choice_same_table (truth_of v c) (truth_of v a) ∙ ap (λ y. cond (truth_of v c) (truth_of v a) y) (ap (truth_of v) e);
}

pub choice_not : (one c a b : Literal) → a ≡ opposite b → ReducesChoice one c a b (choice.Xor c b)
choice_not one c a b e = record {
  below = λ n ho hc ha hb. (hc, hb);
  value = λ v t. sym (ap (λ x. cond (truth_of v c) x (truth_of v b)) (is_not b v e));
}

pub choice_first_on : (one c a b : Literal) → a ≡ one → ReducesChoice one c a b (choice.Or c b)
choice_first_on one c a b e = record {
  below = λ n ho hc ha hb. (hc, hb);
  value = λ v t. choice_first_on_table (truth_of v c) (truth_of v b) ∙ sym (ap (λ x. cond (truth_of v c) x (truth_of v b)) (is_on v t e));
}

pub choice_first_off : (one c a b m : Literal) → m ≡ opposite c → a ≡ opposite one → ReducesChoice one c a b (choice.And m b)
choice_first_off one c a b m en e = record {
  below = λ n ho hc ha hb. (below_not c n en hc, hb);
  value = λ v t. ap (λ x. x && truth_of v b) (is_not c v en) ∙ choice_first_off_table (truth_of v c) (truth_of v b) ∙ sym (ap (λ x. cond (truth_of v c) x (truth_of v b)) (is_off one v t e));
}

pub choice_second_on : (one c a b m : Literal) → m ≡ opposite c → b ≡ one → ReducesChoice one c a b (choice.Or m a)
choice_second_on one c a b m en e = record {
  below = λ n ho hc ha hb. (below_not c n en hc, ha);
  value = λ v t. ap (λ x. x || truth_of v a) (is_not c v en) ∙ choice_second_on_table (truth_of v c) (truth_of v a) ∙ sym (ap (λ x. cond (truth_of v c) (truth_of v a) x) (is_on v t e));
}

pub choice_second_off : (one c a b : Literal) → b ≡ opposite one → ReducesChoice one c a b (choice.And c a)
choice_second_off one c a b e = record {
  below = λ n ho hc ha hb. (hc, ha);
  value = λ v t. choice_second_off_table (truth_of v c) (truth_of v a) ∙ sym (ap (λ x. cond (truth_of v c) (truth_of v a) x) (is_off one v t e));
}

pub choice_first_is : (one c a b : Literal) → a ≡ c → ReducesChoice one c a b (choice.Or c b)
choice_first_is one c a b e = record {
  below = λ n ho hc ha hb. (hc, hb);
  value = λ v t. choice_first_is_table (truth_of v c) (truth_of v b) ∙ sym (ap (λ x. cond (truth_of v c) x (truth_of v b)) (ap (truth_of v) e));
}

pub choice_first_not : (one c a b m : Literal) → m ≡ opposite c → a ≡ opposite c → ReducesChoice one c a b (choice.And m b)
choice_first_not one c a b m en e = record {
  below = λ n ho hc ha hb. (below_not c n en hc, hb);
  value = λ v t. ap (λ x. x && truth_of v b) (is_not c v en) ∙ choice_first_not_table (truth_of v c) (truth_of v b) ∙ sym (ap (λ x. cond (truth_of v c) x (truth_of v b)) (is_not c v e));
}

pub choice_second_is : (one c a b : Literal) → b ≡ c → ReducesChoice one c a b (choice.And c a)
choice_second_is one c a b e = record {
  below = λ n ho hc ha hb. (hc, ha);
  value = λ v t. choice_second_is_table (truth_of v c) (truth_of v a) ∙ sym (ap (λ x. cond (truth_of v c) (truth_of v a) x) (ap (truth_of v) e));
}

pub choice_second_not : (one c a b m : Literal) → m ≡ opposite c → b ≡ opposite c → ReducesChoice one c a b (choice.Or m a)
choice_second_not one c a b m en e = record {
  below = λ n ho hc ha hb. (below_not c n en hc, ha);
  value = λ v t. ap (λ x. x || truth_of v a) (is_not c v en) ∙ choice_second_not_table (truth_of v c) (truth_of v a) ∙ sym (ap (λ x. cond (truth_of v c) (truth_of v a) x) (is_not c v e));
}

pub choice_open : (one c a b : Literal) → ReducesChoice one c a b choice.Open
choice_open one c a b = record { below = λ n ho hc ha hb. tt; value = λ v t. refl }

pub ruleset choice_reductions = (choice_on, choice_off, choice_same, choice_not, choice_first_on, choice_first_off, choice_second_on, choice_second_off, choice_first_is, choice_first_not, choice_second_is, choice_second_not, choice_open)

bit_not : (x : Bool) → bit (not x) + bit x ≡ 1
bit_not true = refl
bit_not false = refl

same_bits : {a b : Literal} (v : ℕ → Bool) → a ≡ b → bit (truth_of v a) ≡ bit (truth_of v b)
same_bits v e = ap (λ (l : Literal). bit (truth_of v l)) e

not_bits : {a : Literal} (b : Literal) (v : ℕ → Bool) → a ≡ opposite b → bit (truth_of v a) + bit (truth_of v b) ≡ 1
not_bits b v e = ap (λ x. bit x + bit (truth_of v b)) (is_not b v e) ∙ bit_not (truth_of v b)

on_bit : {one a : Literal} (v : ℕ → Bool) → IsTrue (truth_of v one) → a ≡ one → bit (truth_of v a) ≡ 1
on_bit v t e = ap bit (is_on v t e)

off_bit : (one : Literal) {a : Literal} (v : ℕ → Bool) → IsTrue (truth_of v one) → a ≡ opposite one → bit (truth_of v a) ≡ 0
off_bit one v t e = ap bit (is_off one v t e)

pub add_same_ab : (one a b c : Literal) → a ≡ b → ReducesAddition one a b c (addition.Is c a)
add_same_ab one a b c e = record {
  below = λ n ho ha hb hc. (hc, ha);
  value = λ v t. omega (arith, same_bits v e);
}

pub add_not_ab : (one a b c m : Literal) → m ≡ opposite c → a ≡ opposite b → ReducesAddition one a b c (addition.Is m c)
add_not_ab one a b c m en e = record {
  below = λ n ho ha hb hc. (below_not c n en hc, hc);
  value = λ v t. omega (arith, not_bits b v e, not_bits c v en);
}

pub add_same_ac : (one a b c : Literal) → a ≡ c → ReducesAddition one a b c (addition.Is b a)
add_same_ac one a b c e = record {
  below = λ n ho ha hb hc. (hb, ha);
  value = λ v t. omega (arith, same_bits v e);
}

pub add_not_ac : (one a b c m : Literal) → m ≡ opposite b → a ≡ opposite c → ReducesAddition one a b c (addition.Is m b)
add_not_ac one a b c m en e = record {
  below = λ n ho ha hb hc. (below_not b n en hb, hb);
  value = λ v t. omega (arith, not_bits c v e, not_bits b v en);
}

pub add_same_bc : (one a b c : Literal) → b ≡ c → ReducesAddition one a b c (addition.Is a b)
add_same_bc one a b c e = record {
  below = λ n ho ha hb hc. (ha, hb);
  value = λ v t. omega (arith, same_bits v e);
}

pub add_not_bc : (one a b c m : Literal) → m ≡ opposite a → b ≡ opposite c → ReducesAddition one a b c (addition.Is m a)
add_not_bc one a b c m en e = record {
  below = λ n ho ha hb hc. (below_not a n en ha, ha);
  value = λ v t. omega (arith, not_bits c v e, not_bits a v en);
}

pub add_off_a : (one a b c : Literal) → a ≡ opposite one → ReducesAddition one a b c (addition.Half b c)
add_off_a one a b c e = record {
  below = λ n ho ha hb hc. (hb, hc);
  value = λ v t. omega (arith, off_bit one v t e);
}

pub add_on_a : (one a b c : Literal) → a ≡ one → ReducesAddition one a b c (addition.HalfAndOne b c)
add_on_a one a b c e = record {
  below = λ n ho ha hb hc. (hb, hc);
  value = λ v t. omega (arith, on_bit v t e);
}

pub add_off_b : (one a b c : Literal) → b ≡ opposite one → ReducesAddition one a b c (addition.Half a c)
add_off_b one a b c e = record {
  below = λ n ho ha hb hc. (ha, hc);
  value = λ v t. omega (arith, off_bit one v t e);
}

pub add_on_b : (one a b c : Literal) → b ≡ one → ReducesAddition one a b c (addition.HalfAndOne a c)
add_on_b one a b c e = record {
  below = λ n ho ha hb hc. (ha, hc);
  value = λ v t. omega (arith, on_bit v t e);
}

pub add_off_c : (one a b c : Literal) → c ≡ opposite one → ReducesAddition one a b c (addition.Half a b)
add_off_c one a b c e = record {
  below = λ n ho ha hb hc. (ha, hb);
  value = λ v t. omega (arith, off_bit one v t e);
}

pub add_on_c : (one a b c : Literal) → c ≡ one → ReducesAddition one a b c (addition.HalfAndOne a b)
add_on_c one a b c e = record {
  below = λ n ho ha hb hc. (ha, hb);
  value = λ v t. omega (arith, on_bit v t e);
}

pub add_open : (one a b c : Literal) → ReducesAddition one a b c addition.Open
add_open one a b c = record { below = λ n ho ha hb hc. tt; value = λ v t. tt }

pub ruleset addition_reductions = (add_same_ab, add_not_ab, add_same_ac, add_not_ac, add_same_bc, add_not_bc, add_off_a, add_on_a, add_off_b, add_on_b, add_off_c, add_on_c, add_open)

pub pair_kept : (a b : Literal) → IsPair a b a b
pair_kept a b = inl (refl, refl)

pub pair_turned : (a b : Literal) → IsPair b a a b
pair_turned a b = inr (refl, refl)

pub ruleset pairs = (pair_kept, pair_turned)

pub pair_below : {x y a b : Literal} (n : ℕ) → IsPair x y a b → a.variable < n → b.variable < n → (x.variable < n) × (y.variable < n)
pair_below n p ha hb = elim p [
  | inl e ↦ (below_as n e.0 ha, below_as n e.1 hb)
  | inr e ↦ (below_as n e.0 hb, below_as n e.1 ha)
]

pub pair_count : {x y a b : Literal} (v : ℕ → Bool) → IsPair x y a b → bit (truth_of v x) + bit (truth_of v y) ≡ bit (truth_of v a) + bit (truth_of v b)
pair_count v p = elim p [
  | inl e ↦ omega (arith, same_bits v e.0, same_bits v e.1)
  | inr e ↦ omega (arith, same_bits v e.0, same_bits v e.1)
]

-- what doesn't hang on the order
pub pair_value : {x y a b : Literal} (op : Bool → Bool → Bool) (v : ℕ → Bool) → ((p q : Bool) → op p q ≡ op q p) → IsPair x y a b → op (truth_of v x) (truth_of v y) ≡ op (truth_of v a) (truth_of v b)
pair_value {x} {y} {a} {b} op v turn p = elim p [
  | inl e ↦ ap₂ (λ (l k : Literal). op (truth_of v l) (truth_of v k)) e.0 e.1
  | inr e ↦ ap₂ (λ (l k : Literal). op (truth_of v l) (truth_of v k)) e.0 e.1 ∙ turn (truth_of v b) (truth_of v a)
]

pub triple_made : {low high middle third first second a b c : Literal} → IsPair low high a b → IsPair middle third high c → IsPair first second low middle → IsTriple first second third a b c
triple_made p q r = record {
  below = λ n ha hb hc.
      let lower = pair_below n p ha hb in
      let upper = pair_below n q lower.1 hc in
      let lowest = pair_below n r lower.0 upper.0 in
      (lowest.0, lowest.1, upper.1);
  count_is = λ v. omega (arith, pair_count v p, pair_count v q, pair_count v r);
}
