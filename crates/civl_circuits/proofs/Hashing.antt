-- Gates that are shared.
use Rattle.std.proofs.Common.{◌≡◌, ℕ, ◌+◌, ◌*◌, ◌%◌, ◌<◌, List, [], ◌∷◌, ◌++◌, refl, sym, ◌∙◌, ap, ap₂, arith, inl, inr, Bool, true, false, not, ◌&&◌, ◌||◌, cond, Option, None, Some, nat_eq, nat_lt, slice_get}
use Rattle.std.proofs.lemmas.List.Elements.{All-nil, All-weaker}
use Rattle.std.proofs.Math.Bool.{and_comm}
use Rattle.civl_cnf.specs.Literal.{Literal, opposite, truth_of}
use Rattle.civl_cnf.specs.ClauseSet.{ClauseSet}
use Rattle.civl_cnf.specs.Gates.{Extends, IsGate, IsAdder, bit, xor, majority}
use Rattle.civl_cnf.proofs.Extending.{extends_same, extends_trans, extends_keeps, extends_kept, truth_of-opposite}
use Rattle.civl_circuits.specs.Circuits.{IsOne, MakesBit}
use Rattle.civl_circuits.specs.Hashing.{literal_of, gate_value, IsOutput, AreOutputs, IsHashed, IsConstant, IsFolded}
use Rattle.civl_circuits.specs.inner.Folding.{Folds, AreApart, ReducesChoice, choice_value, ReducesAddition, IsPair, IsTriple, signed, count, MakesSum, MakesHalf}
use Rattle.civl_circuits.specs.declared.folding.Choice.{Choice}
use Rattle.civl_circuits.specs.declared.folding.Choice.TheVariants as choice
use Rattle.civl_circuits.specs.declared.folding.Addition.TheVariants as addition
use Rattle.civl_circuits.specs.declared.gate.Operand.{Operand}
use Rattle.civl_circuits.specs.declared.gate.Gate.{Gate}
use Rattle.civl_circuits.specs.declared.gate.Gate.TheVariants as gate
use Rattle.civl_circuits.proofs.Words.{one_later}
use Rattle.civl_circuits.proofs.Folds.{is_not, pair_value}

pub output_later : {f g : ClauseSet} {k : Gate} {o : Literal} → Extends f g → IsOutput f k o → IsOutput g k o
output_later {f} {g} p i = record { below = omega (arith, i.below, p.variables); value = λ v h. i.value v (extends_keeps p v h) }

pub outputs_later : {f g : ClauseSet} (es : List (Gate × Literal)) → Extends f g → AreOutputs f es → AreOutputs g es
outputs_later {f} {g} es p all = All-weaker (λ e. IsOutput f e.0 e.1) (λ e. IsOutput g e.0 e.1) (λ e i. output_later p i) es all

pub outputs_none : (f : ClauseSet) → AreOutputs f []
outputs_none f = All-nil (λ e. IsOutput f e.0 e.1)

-- the first clause stays the first
first_stays : (xs ys : List (List Literal)) (x : List Literal) → slice_get xs 0 ≡ Some x → slice_get (xs ++ ys) 0 ≡ Some x
first_stays [] ys x h = absurd cc
first_stays (z ∷ zs) ys x h = h

pub hashed_later : {f g : ClauseSet} {one : Literal} (es new : List (Gate × Literal)) → IsHashed f one es → Extends f g → AreOutputs g new → IsHashed g one new
hashed_later {f} {g} {one} es new h p all = record {
  first = ap (λ cs. slice_get cs 0) p.clauses ∙ first_stays f.clauses p.added (one ∷ []) h.first;
  constant = one_later p h.constant;
  outputs = all;
}

variable_of : Option (List Literal) → ℕ
variable_of None = 0
variable_of (Some []) = 0
variable_of (Some (l ∷ ls)) = l.variable

constant_variable : {f : ClauseSet} {one : Literal} {es : List (Gate × Literal)} (a : Literal) → IsHashed f one es → IsConstant f a → a.variable ≡ one.variable
unfolding variable_of
constant_variable a h k = k.2 ∙ ap variable_of (sym k.1 ∙ h.first)

pub not_folded : {f : ClauseSet} {one a b : Literal} {es : List (Gate × Literal)} → IsHashed f one es → AreApart one a b → IsFolded f a b → ⊥
not_folded {f} {one} {a} {b} h apart folded = elim folded [
  | inl k ↦ apart.first (constant_variable a h k)
  | inr rest ↦ elim rest [
    | inl k ↦ apart.second (constant_variable b h k)
    | inr e ↦ apart.both e
  ]
]

-- what is folded takes no gate
pub folded_bit : {f : ClauseSet} {one a b o : Literal} {op : Bool → Bool → Bool} → IsOne f one → Folds one a b o op → a.variable < f.variables → b.variable < f.variables → MakesBit f f o 1 (λ v. op (truth_of v a) (truth_of v b))
folded_bit {f} i k ha hb = record {
  extends = extends_same f;
  variables = omega arith;
  below = k.below f.variables i.below ha hb;
  value = λ v h. k.value v (i.always v h);
}

-- what is found takes no gate
pub found_bit : {f : ClauseSet} {k : Gate} {o : Literal} (value : (ℕ → Bool) → Bool) → IsOutput f k o → ((v : ℕ → Bool) → gate_value v k ≡ value v) → MakesBit f f o 1 value
found_bit {f} value i so = record {
  extends = extends_same f;
  variables = omega arith;
  below = i.below;
  value = λ v h. i.value v h ∙ so v;
}

pub made_output : {f g : ClauseSet} {o : Literal} {value : (ℕ → Bool) → Bool} (k : Gate) → IsGate f g o value → ((v : ℕ → Bool) → gate_value v k ≡ value v) → IsOutput g k o
made_output k g so = record { below = g.below; value = λ v h. g.value v h ∙ sym (so v) }

pub made_bit : {f g : ClauseSet} {o : Literal} {value : (ℕ → Bool) → Bool} → IsGate f g o value → MakesBit f g o 1 value
made_bit g = record { extends = g.extends; variables = omega (arith, g.variables); below = g.below; value = g.value }

pub and_is : (x y : Operand) (a b : Literal) → literal_of x ≡ a → literal_of y ≡ b → (v : ℕ → Bool) → gate_value v (gate.And x y) ≡ (truth_of v a && truth_of v b)
and_is x y a b ex ey v = ap₂ (λ p q. truth_of v p && truth_of v q) ex ey

pub xor_is : (x y : Operand) (a b : Literal) → literal_of x ≡ a → literal_of y ≡ b → (v : ℕ → Bool) → gate_value v (gate.Xor x y) ≡ xor (truth_of v a) (truth_of v b)
xor_is x y a b ex ey v = ap₂ (λ p q. xor (truth_of v p) (truth_of v q)) ex ey

pub ite_is : (z x y : Operand) (c a b : Literal) → literal_of z ≡ c → literal_of x ≡ a → literal_of y ≡ b → (v : ℕ → Bool) → gate_value v (gate.Ite z x y) ≡ cond (truth_of v c) (truth_of v a) (truth_of v b)
ite_is z x y c a b ez ex ey v = ap (λ p. cond (truth_of v p) (truth_of v (literal_of x)) (truth_of v (literal_of y))) ez ∙ ap₂ (λ p q. cond (truth_of v c) (truth_of v p) (truth_of v q)) ex ey

-- the bits of a sum of three
sum_bit : (s k : Bool) → s ≡ nat_eq ((bit s + 2 * bit k) % 2) 1
sum_bit true true = refl
sum_bit true false = refl
sum_bit false true = refl
sum_bit false false = refl

carry_bit : (s k : Bool) → k ≡ nat_lt 1 (bit s + 2 * bit k)
carry_bit true true = refl
carry_bit true false = refl
carry_bit false true = refl
carry_bit false false = refl

odd_bit : (a b c : Bool) → nat_eq ((bit a + bit b + bit c) % 2) 1 ≡ xor a (xor b c)
odd_bit true true true = refl
odd_bit true true false = refl
odd_bit true false true = refl
odd_bit true false false = refl
odd_bit false true true = refl
odd_bit false true false = refl
odd_bit false false true = refl
odd_bit false false false = refl

most_bit : (a b c : Bool) → nat_lt 1 (bit a + bit b + bit c) ≡ majority a b c
most_bit true true true = refl
most_bit true true false = refl
most_bit true false true = refl
most_bit true false false = refl
most_bit false true true = refl
most_bit false true false = refl
most_bit false false true = refl
most_bit false false false = refl

count_bits : (a b c : Bool) → bit (xor a (xor b c)) + 2 * bit (majority a b c) ≡ bit a + bit b + bit c
count_bits true true true = refl
count_bits true true false = refl
count_bits true false true = refl
count_bits true false false = refl
count_bits false true true = refl
count_bits false true false = refl
count_bits false false true = refl
count_bits false false false = refl

three : {A : Type 0} (h : Bool → Bool → Bool → A) (v : ℕ → Bool) (x y z : Operand) (a b c : Literal) → literal_of x ≡ a → literal_of y ≡ b → literal_of z ≡ c → h (truth_of v a) (truth_of v b) (truth_of v c) ≡ h (truth_of v (literal_of x)) (truth_of v (literal_of y)) (truth_of v (literal_of z))
three h v x y z a b c ex ey ez = sym (ap (λ p. h (truth_of v p) (truth_of v (literal_of y)) (truth_of v (literal_of z))) ex ∙ ap₂ (λ p q. h (truth_of v a) (truth_of v p) (truth_of v q)) ey ez)

pub made_sum : {f g : ClauseSet} {s k : Literal} (x y z : Operand) (a b c : Literal) → literal_of x ≡ a → literal_of y ≡ b → literal_of z ≡ c → IsAdder f g a b c s k → IsOutput g (gate.Sum x y z) s
made_sum {f} {g} {s} {k} x y z a b c ex ey ez i = record {
  below = i.sum_below;
  value = λ v h.
      sum_bit (truth_of v s) (truth_of v k)
      ∙ ap (λ n. nat_eq (n % 2) 1) (i.count v h)
      ∙ odd_bit (truth_of v a) (truth_of v b) (truth_of v c)
      ∙ three (λ p q r. xor p (xor q r)) v x y z a b c ex ey ez;
}

pub made_carry : {f g : ClauseSet} {s k : Literal} (x y z : Operand) (a b c : Literal) → literal_of x ≡ a → literal_of y ≡ b → literal_of z ≡ c → IsAdder f g a b c s k → IsOutput g (gate.Carry x y z) k
made_carry {f} {g} {s} {k} x y z a b c ex ey ez i = record {
  below = i.carry_below;
  value = λ v h.
      carry_bit (truth_of v s) (truth_of v k)
      ∙ ap (λ n. nat_lt 1 n) (i.count v h)
      ∙ most_bit (truth_of v a) (truth_of v b) (truth_of v c)
      ∙ three majority v x y z a b c ex ey ez;
}

pub made_adder : {f g : ClauseSet} {a b c s k : Literal} → IsAdder f g a b c s k → MakesSum f g a b c s k
made_adder i = record {
  extends = i.extends;
  variables = omega (arith, i.variables);
  sum_below = i.sum_below;
  carry_below = i.carry_below;
  count_is = λ v h. i.count v h;
}

pub found_adder : {f : ClauseSet} {s k : Literal} (x y z u w t : Operand) (a b c : Literal) → literal_of x ≡ a → literal_of y ≡ b → literal_of z ≡ c → literal_of u ≡ a → literal_of w ≡ b → literal_of t ≡ c → IsOutput f (gate.Sum x y z) s → IsOutput f (gate.Carry u w t) k → MakesSum f f a b c s k
found_adder {f} {s} {k} x y z u w t a b c ex ey ez eu ew et i j = record {
  extends = extends_same f;
  variables = omega arith;
  sum_below = i.below;
  carry_below = j.below;
  count_is = λ v h.
      ap₂ (λ p q. bit p + 2 * bit q) (i.value v h ∙ sym (three (λ p q r. xor p (xor q r)) v x y z a b c ex ey ez)) (j.value v h ∙ sym (three majority v u w t a b c eu ew et))
      ∙ count_bits (truth_of v a) (truth_of v b) (truth_of v c);
}

-- signs
signed_truth : (v : ℕ → Bool) (keep : Bool) (l : Literal) → truth_of v (signed keep l) ≡ cond keep (truth_of v l) (not (truth_of v l))
signed_truth v true l = refl
signed_truth v false l = truth_of-opposite v l

pub signed_below : (n : ℕ) (keep : Bool) (l m : Literal) → m ≡ signed keep l → l.variable < n → m.variable < n
signed_below n true l m e h = omega (arith, h, ap (λ (x : Literal). x.variable) e)
signed_below n false l m e h = omega (arith, h, ap (λ (x : Literal). x.variable) e)

is_signed : (v : ℕ → Bool) (keep : Bool) (l : Literal) {m : Literal} → m ≡ signed keep l → truth_of v m ≡ cond keep (truth_of v l) (not (truth_of v l))
is_signed v keep l e = ap (truth_of v) e ∙ signed_truth v keep l

xor_turns : (x y : Bool) → xor x y ≡ xor y x
xor_turns true true = refl
xor_turns true false = refl
xor_turns false true = refl
xor_turns false false = refl

pub ordered_and : {f g : ClauseSet} {o x y a b : Literal} → IsPair x y a b → MakesBit f g o 1 (λ v. truth_of v x && truth_of v y) → MakesBit f g o 1 (λ v. truth_of v a && truth_of v b)
ordered_and p t = record {
  extends = t.extends;
  variables = t.variables;
  below = t.below;
  value = λ v h. t.value v h ∙ pair_value (λ x y. x && y) v and_comm p;
}

xor_signs : (p q x y : Bool) → cond q (cond p (xor (cond p x (not x)) (cond q y (not y))) (not (xor (cond p x (not x)) (cond q y (not y))))) (not (cond p (xor (cond p x (not x)) (cond q y (not y))) (not (xor (cond p x (not x)) (cond q y (not y)))))) ≡ xor x y
xor_signs true true true true = refl
xor_signs true true true false = refl
xor_signs true true false true = refl
xor_signs true true false false = refl
xor_signs true false true true = refl
xor_signs true false true false = refl
xor_signs true false false true = refl
xor_signs true false false false = refl
xor_signs false true true true = refl
xor_signs false true true false = refl
xor_signs false true false true = refl
xor_signs false true false false = refl
xor_signs false false true true = refl
xor_signs false false true false = refl
xor_signs false false false true = refl
xor_signs false false false false = refl

choice_signs : (p c x y : Bool) → cond p (cond c (cond p x (not x)) (cond p y (not y))) (not (cond c (cond p x (not x)) (cond p y (not y)))) ≡ cond c x y
choice_signs true true true true = refl
choice_signs true true true false = refl
choice_signs true true false true = refl
choice_signs true true false false = refl
choice_signs true false true true = refl
choice_signs true false true false = refl
choice_signs true false false true = refl
choice_signs true false false false = refl
choice_signs false true true true = refl
choice_signs false true true false = refl
choice_signs false true false true = refl
choice_signs false true false false = refl
choice_signs false false true true = refl
choice_signs false false true false = refl
choice_signs false false false true = refl
choice_signs false false false false = refl

choice_turns : (c x y : Bool) → cond (not c) y x ≡ cond c x y
choice_turns true true true = refl
choice_turns true true false = refl
choice_turns true false true = refl
choice_turns true false false = refl
choice_turns false true true = refl
choice_turns false true false = refl
choice_turns false false true = refl
choice_turns false false false = refl

bit_flips : (x : Bool) → bit (not x) + bit x ≡ 1
bit_flips true = refl
bit_flips false = refl

pub signed_xor : {f g : ClauseSet} {o m r x y left right a b : Literal} (p q : Bool) → IsPair x y a b → left ≡ signed p x → right ≡ signed q y → MakesBit f g o 1 (λ v. xor (truth_of v left) (truth_of v right)) → m ≡ signed p o → r ≡ signed q m → MakesBit f g r 1 (λ v. xor (truth_of v a) (truth_of v b))
signed_xor {f} {g} {o} {m} {r} {x} {y} {left} {right} {a} {b} p q pair el er t em e = record {
  extends = t.extends;
  variables = t.variables;
  below = signed_below g.variables q m r e (signed_below g.variables p o m em t.below);
  value = λ v h.
      let inner : truth_of v o ≡ xor (cond p (truth_of v x) (not (truth_of v x))) (cond q (truth_of v y) (not (truth_of v y))) =
      t.value v h ∙ ap₂ xor (is_signed v p x el) (is_signed v q y er) in
      is_signed v q m e
      ∙ ap (λ z. cond q z (not z)) (is_signed v p o em ∙ ap (λ z. cond p z (not z)) inner)
      ∙ xor_signs p q (truth_of v x) (truth_of v y)
      ∙ pair_value xor v xor_turns pair;
}

pub signed_choice : {f g : ClauseSet} {o r x y : Literal} (c a b : Literal) (p : Bool) → x ≡ signed p a → y ≡ signed p b → MakesBit f g o 1 (λ v. cond (truth_of v c) (truth_of v x) (truth_of v y)) → r ≡ signed p o → MakesBit f g r 1 (λ v. cond (truth_of v c) (truth_of v a) (truth_of v b))
signed_choice {f} {g} {o} {r} {x} {y} c a b p ex ey t e = record {
  extends = t.extends;
  variables = t.variables;
  below = signed_below g.variables p o r e t.below;
  value = λ v h.
      let inner : truth_of v o ≡ cond (truth_of v c) (cond p (truth_of v a) (not (truth_of v a))) (cond p (truth_of v b) (not (truth_of v b))) =
      t.value v h ∙ ap₂ (cond (truth_of v c)) (is_signed v p a ex) (is_signed v p b ey) in
      is_signed v p o e ∙ ap (λ z. cond p z (not z)) inner ∙ choice_signs p (truth_of v c) (truth_of v a) (truth_of v b);
}

-- the branches changed, and the condition with them
pub turned_choice : {f g : ClauseSet} {o n : Literal} (c a b : Literal) → n ≡ opposite c → MakesBit f g o 1 (λ v. cond (truth_of v n) (truth_of v b) (truth_of v a)) → MakesBit f g o 1 (λ v. cond (truth_of v c) (truth_of v a) (truth_of v b))
turned_choice {f} {g} {o} {n} c a b en t = record {
  extends = t.extends;
  variables = t.variables;
  below = t.below;
  value = λ v h. t.value v h ∙ ap (λ z. cond z (truth_of v b) (truth_of v a)) (is_not c v en) ∙ choice_turns (truth_of v c) (truth_of v a) (truth_of v b);
}

flipped_sum : (s k a b c : Bool) → bit s + 2 * bit k ≡ bit (not a) + bit (not b) + bit (not c) → bit (not s) + 2 * bit (not k) ≡ bit a + bit b + bit c
flipped_sum s k a b c h = omega (arith, h, bit_flips s, bit_flips k, bit_flips a, bit_flips b, bit_flips c)

signs_of_sum : (p s k a b c : Bool) → bit s + 2 * bit k ≡ bit (cond p a (not a)) + bit (cond p b (not b)) + bit (cond p c (not c)) → bit (cond p s (not s)) + 2 * bit (cond p k (not k)) ≡ bit a + bit b + bit c
signs_of_sum true s k a b c h = h
signs_of_sum false s k a b c h = flipped_sum s k a b c h

pub signed_sum : {f g : ClauseSet} {s k sum carry x y z low middle high a b c : Literal} (p : Bool) → IsTriple x y z a b c → low ≡ signed p x → middle ≡ signed p y → high ≡ signed p z → MakesSum f g low middle high s k → sum ≡ signed p s → carry ≡ signed p k → MakesSum f g a b c sum carry
signed_sum {f} {g} {s} {k} {sum} {carry} {x} {y} {z} {low} {middle} {high} {a} {b} {c} p t el em eh i es ek = record {
  extends = i.extends;
  variables = i.variables;
  sum_below = signed_below g.variables p s sum es i.sum_below;
  carry_below = signed_below g.variables p k carry ek i.carry_below;
  count_is = λ v h.
      let inputs : count v low middle high ≡ bit (cond p (truth_of v x) (not (truth_of v x))) + bit (cond p (truth_of v y) (not (truth_of v y))) + bit (cond p (truth_of v z) (not (truth_of v z))) =
      ap₂ (λ m n. bit m + bit n + bit (truth_of v high)) (is_signed v p x el) (is_signed v p y em)
      ∙ ap (λ n. bit (cond p (truth_of v x) (not (truth_of v x))) + bit (cond p (truth_of v y) (not (truth_of v y))) + bit n) (is_signed v p z eh) in
      ap₂ (λ m n. bit m + 2 * bit n) (is_signed v p s es) (is_signed v p k ek)
      ∙ signs_of_sum p (truth_of v s) (truth_of v k) (truth_of v x) (truth_of v y) (truth_of v z) (i.count_is v h ∙ inputs)
      ∙ t.count_is v;
}

half_bits : (x y : Bool) → bit (xor x y) + 2 * bit (x && y) ≡ bit x + bit y + 0
half_bits true true = refl
half_bits true false = refl
half_bits false true = refl
half_bits false false = refl

more_bits : (x y : Bool) → bit (not (xor x y)) + 2 * bit (x || y) ≡ bit x + bit y + 1
more_bits true true = refl
more_bits true false = refl
more_bits false true = refl
more_bits false false = refl

half_made : {f g h : ClauseSet} {s k : Literal} (a b : Literal) (more : ℕ) (p q : Bool → Bool → Bool) → ((x y : Bool) → bit (p x y) + 2 * bit (q x y) ≡ bit x + bit y + more) → MakesBit f g s 1 (λ v. p (truth_of v a) (truth_of v b)) → MakesBit g h k 1 (λ v. q (truth_of v a) (truth_of v b)) → MakesHalf f h a b more s k
half_made {f} {g} {h} {s} {k} a b more p q table i j = record {
  extends = extends_trans i.extends j.extends;
  variables = omega (arith, i.variables, j.variables);
  sum_below = omega (arith, i.below, j.extends.variables);
  carry_below = j.below;
  count_is = λ v y.
      ap₂ (λ m n. bit m + 2 * bit n) (i.value v (extends_keeps j.extends v y)) (j.value v y)
      ∙ table (truth_of v a) (truth_of v b);
}

pub half_is : {f g h : ClauseSet} {s k : Literal} (a b : Literal) → MakesBit f g s 1 (λ v. xor (truth_of v a) (truth_of v b)) → MakesBit g h k 1 (λ v. truth_of v a && truth_of v b) → MakesHalf f h a b 0 s k
half_is a b i j = half_made a b 0 xor (λ x y. x && y) half_bits i j

pub half_and_one_is : {f g h : ClauseSet} {s k : Literal} (a b : Literal) → MakesBit f g s 1 (λ v. not (xor (truth_of v a) (truth_of v b))) → MakesBit g h k 1 (λ v. truth_of v a || truth_of v b) → MakesHalf f h a b 1 s k
half_and_one_is a b i j = half_made a b 1 (λ x y. not (xor x y)) (λ x y. x || y) more_bits i j

-- what was reduced
pub choice_as : {f g : ClauseSet} {one c a b o : Literal} (reduced : Choice) → IsOne f one → ReducesChoice one c a b reduced → MakesBit f g o 1 (λ v. choice_value v c a b reduced) → MakesBit f g o 1 (λ v. cond (truth_of v c) (truth_of v a) (truth_of v b))
choice_as reduced i r t = record {
  extends = t.extends;
  variables = t.variables;
  below = t.below;
  value = λ v h. t.value v h ∙ r.value v (i.always v (extends_keeps t.extends v h));
}

pub choice_there : {f : ClauseSet} {one c a b x : Literal} → IsOne f one → ReducesChoice one c a b (choice.Is x) → c.variable < f.variables → a.variable < f.variables → b.variable < f.variables → MakesBit f f x 1 (λ v. cond (truth_of v c) (truth_of v a) (truth_of v b))
choice_there {f} i r hc ha hb = record {
  extends = extends_same f;
  variables = omega arith;
  below = r.below f.variables i.below hc ha hb;
  value = λ v h. r.value v (i.always v h);
}

pub addition_there : {f : ClauseSet} {one a b c s k : Literal} → IsOne f one → ReducesAddition one a b c (addition.Is s k) → a.variable < f.variables → b.variable < f.variables → c.variable < f.variables → MakesSum f f a b c s k
addition_there {f} i r ha hb hc =
    let inside = r.below f.variables i.below ha hb hc in
    record {
      extends = extends_same f;
      variables = omega arith;
      sum_below = inside.0;
      carry_below = inside.1;
      count_is = λ v h. r.value v (i.always v h);
    }

pub addition_half : {f g : ClauseSet} {one a b c x y s k : Literal} → IsOne f one → ReducesAddition one a b c (addition.Half x y) → MakesHalf f g x y 0 s k → MakesSum f g a b c s k
addition_half i r t = record {
  extends = t.extends;
  variables = t.variables;
  sum_below = t.sum_below;
  carry_below = t.carry_below;
  count_is = λ v h. omega (arith, t.count_is v h, r.value v (i.always v (extends_keeps t.extends v h)));
}

pub addition_half_and_one : {f g : ClauseSet} {one a b c x y s k : Literal} → IsOne f one → ReducesAddition one a b c (addition.HalfAndOne x y) → MakesHalf f g x y 1 s k → MakesSum f g a b c s k
addition_half_and_one i r t = record {
  extends = t.extends;
  variables = t.variables;
  sum_below = t.sum_below;
  carry_below = t.carry_below;
  count_is = λ v h. omega (arith, t.count_is v h, r.value v (i.always v (extends_keeps t.extends v h)));
}

pub ruleset hashing = (hashed_later, outputs_later, outputs_none, one_later, extends_same, extends_trans, extends_kept)

pub ruleset sharing = (outputs_later, extends_same, extends_trans, extends_kept, made_bit)
