-- The symbolic value of one node.
use Rattle.std.specs.Prelude.{slice_get, nat_eq, IsTrue, IsSome, Option, Some, None}
use Rattle.std.proofs.Common.{◌≡◌, ℕ, ◌+◌, ◌*◌, ◌<◌, ◌≤◌, List, length, get_or, refl, sym, ◌∙◌, ap, ap₂, subst, arith, Bool, true, ◌||◌}
use Rattle.std.proofs.lemmas.Bool.{eq-eqb, or_left, or_right, false≢true}
use Rattle.std.proofs.lemmas.List.{get_or_default}
use Rattle.civl_bits.specs.declared.value.Value.{Value}
use Rattle.civl_bits.specs.declared.value.Value.TheVariants as value
use Rattle.civl_tree.specs.declared.expr.Sort.{Sort}
use Rattle.civl_tree.specs.declared.expr.Sort.TheVariants as sort
use Rattle.civl_tree.specs.declared.expr.One.{One}
use Rattle.civl_tree.specs.declared.expr.Two.{Two}
use Rattle.civl_tree.specs.rules.Sorts.{one_sort, two_sort, pick_sort, get_sort, set_sort, fill_sort, slice_sort, widen_sort, join_sort}
use Rattle.civl_tree.specs.rules.StoreSize.{bits_of}
use Rattle.civl_firing.specs.values.Operators.{one_value, two_value, pick_value, slice_value, widen_value, join_value}
use Rattle.civl_firing.specs.values.Values.{is_sort, sort_of_value}
use Rattle.civl_firing.specs.values.Weights.{bits_in, one_weight, two_weight, pick_weight}
use Rattle.civl_cnf.specs.Literal.{Literal}
use Rattle.civl_cnf.specs.ClauseSet.{ClauseSet}
use Rattle.civl_cnf.proofs.Extending.{extends_same, extends_trans}
use Rattle.civl_circuits.specs.Circuits.{IsOne, blank}
use Rattle.civl_symbolic.specs.declared.symbolic.Symbolic.{Symbolic}
use Rattle.civl_symbolic.specs.declared.symbolic.Symbolic.TheVariants as symbolic
use Rattle.civl_symbolic.specs.Symbolic.{value_under, sort_of, IsIn, Makes, Moves, IsConstant, IsVariable, is_flat, is_flat_value}
use Rattle.civl_terms.specs.declared.node.Node.{Node}
use Rattle.civl_terms.specs.declared.node.Node.TheVariants.{Constant, Variable, One as Once, Two as Twice, Pick, Get, Set, Fill, Slice, Widen, Join}
use Rattle.civl_terms.specs.Graphs.{node_value, values, value_at, node_sort, sorts, sort_at}
use Rattle.civl_terms.specs.Weights.{is_part, node_weight, weight_in, own_weight}
use Rattle.civl_terms.proofs.Nodes.{value_of_node, sort_of_node}
use Rattle.civl_blast.specs.reach.Reaching.{is_plain}
use Rattle.civl_blast.specs.inner.Steps.{symbol_in, input_bits, IsReady, NodeMade}

pub ruleset extending = (extends_trans, extends_same)

-- ---- what a ready node's parts are

pub record IsPart (ns : List Node) (set : ClauseSet) (table : List Symbolic) (a : ℕ) (x : Symbolic) : Type 0 where
  pub below : a < length table
  pub inside : IsIn set x
  pub sorted : sort_at ns a ≡ Some (sort_of x)
  pub symbol : symbol_in table a ≡ x

part_of : {ns : List Node} {at first : ℕ} {set : ClauseSet} {table : List Symbolic} → IsReady ns at set first table → (n : Node) (a : ℕ) (x : Symbolic) → slice_get ns at ≡ Some n → IsTrue (is_part n a) → a < at → x ≡ get_or table a x → IsPart ns set table a x
part_of {ns} {at} {first} {set} {table} r n a x e p h ex =
    let below : a < length table = omega (arith, r.size) in
    let symbol : symbol_in table a ≡ x = get_or_default table a (symbolic.Bool blank) x below ∙ sym ex in
    let q = r.parts n a e p in
    let P : Symbolic → Type 0 = λ s. IsIn set s × (sort_at ns a ≡ Some (sort_of s)) in
    let there : P x = subst P symbol q in
    record { below = below; inside = there.0; sorted = there.1; symbol = symbol }

same_number : (a : ℕ) → IsTrue (nat_eq a a)
same_number a = eq-eqb a a refl

node_sorts : {ns : List Node} {at first : ℕ} {set : ClauseSet} {table : List Symbolic} → IsReady ns at set first table → (n : Node) → slice_get ns at ≡ Some n → (sort_at ns at ≡ node_sort (sorts ns) n) × IsSome (node_sort (sorts ns) n)
node_sorts {ns} {at} r n e =
    let is : sort_at ns at ≡ node_sort (sorts ns) n = sort_of_node ns at n (r.graph.parts at n e) e in
    let P : Option Sort → Type 0 = IsSome in
    (is, subst P is (r.graph.sorted at n e))

-- a node without input bits, from its operation's circuit
made_of : {ns : List Node} {at first : ℕ} {f g : ClauseSet} {table : List Symbolic} {made : Symbolic} → IsReady ns at f first table → (n : Node) (kind : Option Sort) (cost : ℕ) (val : (ℕ → Bool) → Value) → slice_get ns at ≡ Some n → input_bits true (Some n) ≡ 0 → Makes f g made kind cost val → node_sort (sorts ns) n ≡ kind → cost ≤ 2 * node_weight (sorts ns) n → ((v : ℕ → Bool) (env : ℕ → Value) → ((i : ℕ) → IsTrue (is_part n i) → value_at env ns i ≡ value_under v (symbol_in table i)) → node_value env (values env ns) n ≡ val v) → NodeMade ns at f g first table made
made_of {ns} {at} {first} {f} {g} {table} {made} r n kind cost val e none m ek ew so =
    let own : own_weight ns at ≡ node_weight (sorts ns) n = ap (weight_in ns) e in
    let nothing : input_bits true (slice_get ns at) ≡ 0 = ap (input_bits true) e ∙ none in
    record {
      extends = m.extends;
      variables = omega (arith, m.variables, own, nothing, ew);
      inside = m.inside;
      sorted = (node_sorts r n e).0 ∙ ek ∙ m.sorted;
      is = λ v env y shown parts. value_of_node env ns at n (r.graph.parts at n e) e ∙ so v env (λ i p. parts n i e p) ∙ sym (m.is v y);
    }

-- ---- one operand

pub one_part : {ns : List Node} {at first : ℕ} {set : ClauseSet} {table : List Symbolic} → IsReady ns at set first table → (op : One) (a : ℕ) (x : Symbolic) → slice_get ns at ≡ Some (Once op a) → x ≡ get_or table a x → IsPart ns set table a x × IsSome (one_sort op (Some (sort_of x)))
one_part r op a x e ex =
    let part = part_of r (Once op a) a x e (same_number a) (r.graph.parts _ (Once op a) e) ex in
    let P : Option Sort → Type 0 = λ o. IsSome (one_sort op o) in
    (part, subst P part.sorted (node_sorts r (Once op a) e).1)

pub one_made : {ns : List Node} {at first : ℕ} {f g : ClauseSet} {table : List Symbolic} {made : Symbolic} → IsReady ns at f first table → (op : One) (a : ℕ) (x : Symbolic) → slice_get ns at ≡ Some (Once op a) → x ≡ get_or table a x → Makes f g made (one_sort op (Some (sort_of x))) (2 * one_weight op (bits_of (sort_of x))) (λ v. one_value op (value_under v x)) → NodeMade ns at f g first table made
one_made {ns} {at} {first} {f} {g} {table} r op a x e ex m =
    let part = (one_part r op a x e ex).0 in
    let weight : one_weight op (bits_in (sort_at ns a)) ≡ one_weight op (bits_of (sort_of x)) = ap (λ o. one_weight op (bits_in o)) part.sorted in
    made_of r (Once op a) _ _ _ e refl m (ap (one_sort op) part.sorted) (omega (arith, weight))
    (λ v env parts. ap (one_value op) (parts a (same_number a) ∙ ap (value_under v) part.symbol))

-- ---- two operands

pub two_parts : {ns : List Node} {at first : ℕ} {set : ClauseSet} {table : List Symbolic} → IsReady ns at set first table → (op : Two) (a b : ℕ) (x y : Symbolic) → slice_get ns at ≡ Some (Twice op a b) → x ≡ get_or table a x → y ≡ get_or table b y → IsPart ns set table a x × IsPart ns set table b y × IsSome (two_sort op (Some (sort_of x)) (Some (sort_of y)))
two_parts {ns} {at} r op a b x y e ex ey =
    let below = r.graph.parts _ (Twice op a b) e in
    let first = part_of r (Twice op a b) a x e (or_left (nat_eq a a) (nat_eq a b) (same_number a)) below.0 ex in
    let second = part_of r (Twice op a b) b y e (or_right (nat_eq b a) (nat_eq b b) (same_number b)) below.1 ey in
    let is : two_sort op (sort_at ns a) (sort_at ns b) ≡ two_sort op (Some (sort_of x)) (Some (sort_of y)) = ap₂ (two_sort op) first.sorted second.sorted in
    let P : Option Sort → Type 0 = IsSome in
    (first, second, subst P is (node_sorts r (Twice op a b) e).1)

pub two_made : {ns : List Node} {at first : ℕ} {f g : ClauseSet} {table : List Symbolic} {made : Symbolic} → IsReady ns at f first table → (op : Two) (a b : ℕ) (x y : Symbolic) → slice_get ns at ≡ Some (Twice op a b) → x ≡ get_or table a x → y ≡ get_or table b y → Makes f g made (two_sort op (Some (sort_of x)) (Some (sort_of y))) (2 * two_weight op (bits_of (sort_of x))) (λ v. two_value op (value_under v x) (value_under v y)) → NodeMade ns at f g first table made
two_made {ns} {at} {first} {f} {g} {table} r op a b x y e ex ey m =
    let parts_are = two_parts r op a b x y e ex ey in
    let weight : two_weight op (bits_in (sort_at ns a)) ≡ two_weight op (bits_of (sort_of x)) = ap (λ o. two_weight op (bits_in o)) parts_are.0.sorted in
    made_of r (Twice op a b) _ _ _ e refl m (ap₂ (two_sort op) parts_are.0.sorted parts_are.1.sorted) (omega (arith, weight))
    (λ v env parts. ap₂ (two_value op) (parts a (or_left (nat_eq a a) (nat_eq a b) (same_number a)) ∙ ap (value_under v) parts_are.0.symbol) (parts b (or_right (nat_eq b a) (nat_eq b b) (same_number b)) ∙ ap (value_under v) parts_are.1.symbol))

-- ---- a choice

first_of_three : (c a b : ℕ) → IsTrue (nat_eq c c || (nat_eq c a || nat_eq c b))
first_of_three c a b = or_left (nat_eq c c) (nat_eq c a || nat_eq c b) (same_number c)

second_of_three : (c a b : ℕ) → IsTrue (nat_eq a c || (nat_eq a a || nat_eq a b))
second_of_three c a b = or_right (nat_eq a c) (nat_eq a a || nat_eq a b) (or_left (nat_eq a a) (nat_eq a b) (same_number a))

third_of_three : (c a b : ℕ) → IsTrue (nat_eq b c || (nat_eq b a || nat_eq b b))
third_of_three c a b = or_right (nat_eq b c) (nat_eq b a || nat_eq b b) (or_right (nat_eq b a) (nat_eq b b) (same_number b))

pub record IsPick (ns : List Node) (set : ClauseSet) (table : List Symbolic) (c a b : ℕ) (z x y : Symbolic) : Type 0 where
  pub test : IsPart ns set table c z
  pub first : IsPart ns set table a x
  pub second : IsPart ns set table b y
  pub sorts_are : pick_sort (sort_at ns c) (sort_at ns a) (sort_at ns b) ≡ pick_sort (Some (sort_of z)) (Some (sort_of x)) (Some (sort_of y))
  pub fits : IsSome (pick_sort (Some (sort_of z)) (Some (sort_of x)) (Some (sort_of y)))

pub pick_parts : {ns : List Node} {at first : ℕ} {set : ClauseSet} {table : List Symbolic} → IsReady ns at set first table → (c a b : ℕ) (z x y : Symbolic) → slice_get ns at ≡ Some (Pick c a b) → z ≡ get_or table c z → x ≡ get_or table a x → y ≡ get_or table b y → IsPick ns set table c a b z x y
pick_parts {ns} {at} r c a b z x y e ez ex ey =
    let below = r.graph.parts _ (Pick c a b) e in
    let t = part_of r (Pick c a b) c z e (first_of_three c a b) below.0 ez in
    let p = part_of r (Pick c a b) a x e (second_of_three c a b) below.1 ex in
    let q = part_of r (Pick c a b) b y e (third_of_three c a b) below.2 ey in
    let is : pick_sort (sort_at ns c) (sort_at ns a) (sort_at ns b) ≡ pick_sort (Some (sort_of z)) (Some (sort_of x)) (Some (sort_of y)) =
    ap (λ o. pick_sort o (sort_at ns a) (sort_at ns b)) t.sorted ∙ ap₂ (pick_sort (Some (sort_of z))) p.sorted q.sorted in
    let P : Option Sort → Type 0 = IsSome in
    record { test = t; first = p; second = q; sorts_are = is; fits = subst P is (node_sorts r (Pick c a b) e).1 }

pub pick_made : {ns : List Node} {at first : ℕ} {f g : ClauseSet} {table : List Symbolic} {made : Symbolic} → IsReady ns at f first table → (c a b : ℕ) (z x y : Symbolic) → slice_get ns at ≡ Some (Pick c a b) → z ≡ get_or table c z → x ≡ get_or table a x → y ≡ get_or table b y → Makes f g made (pick_sort (Some (sort_of z)) (Some (sort_of x)) (Some (sort_of y))) (2 * pick_weight (bits_of (sort_of x))) (λ v. pick_value (value_under v z) (value_under v x) (value_under v y)) → NodeMade ns at f g first table made
pick_made {ns} {at} {first} {f} {g} {table} r c a b z x y e ez ex ey m =
    let k = pick_parts r c a b z x y e ez ex ey in
    let weight : pick_weight (bits_in (sort_at ns a)) ≡ pick_weight (bits_of (sort_of x)) = ap (λ o. pick_weight (bits_in o)) k.first.sorted in
    made_of r (Pick c a b) _ _ _ e refl m k.sorts_are (omega (arith, weight))
    (λ v env parts.
    ap (λ t. pick_value t (value_at env ns a) (value_at env ns b)) (parts c (first_of_three c a b) ∙ ap (value_under v) k.test.symbol)
    ∙ ap₂ (pick_value (value_under v z)) (parts a (second_of_three c a b) ∙ ap (value_under v) k.first.symbol) (parts b (third_of_three c a b) ∙ ap (value_under v) k.second.symbol))

-- ---- what takes no gate

moved : {f : ClauseSet} {one : Literal} {a b made : Symbolic} {kind : Option Sort} {val : (ℕ → Bool) → Value} → IsOne f one → IsIn f a → IsIn f b → Moves one a b made kind val → Makes f f made kind 0 val
moved {f} o a b m = record {
  extends = extends_same f;
  variables = omega arith;
  inside = record { below = m.below f.variables o.below a.below b.below; limits = m.limits a.limits b.limits };
  sorted = m.sorted;
  is = λ v y. m.is v (o.always v y);
}

pub slice_part : {ns : List Node} {at first : ℕ} {set : ClauseSet} {table : List Symbolic} → IsReady ns at set first table → (a high low : ℕ) (x : Symbolic) → slice_get ns at ≡ Some (Slice a high low) → x ≡ get_or table a x → IsPart ns set table a x × IsSome (slice_sort (Some (sort_of x)) high low)
slice_part r a high low x e ex =
    let part = part_of r (Slice a high low) a x e (same_number a) (r.graph.parts _ (Slice a high low) e) ex in
    let P : Option Sort → Type 0 = λ o. IsSome (slice_sort o high low) in
    (part, subst P part.sorted (node_sorts r (Slice a high low) e).1)

pub slice_made : {ns : List Node} {at first : ℕ} {f : ClauseSet} {table : List Symbolic} {made : Symbolic} {one : Literal} → IsReady ns at f first table → IsOne f one → (a high low : ℕ) (x : Symbolic) → slice_get ns at ≡ Some (Slice a high low) → x ≡ get_or table a x → Moves one x x made (slice_sort (Some (sort_of x)) high low) (λ v. slice_value (value_under v x) high low) → NodeMade ns at f f first table made
slice_made r o a high low x e ex m =
    let part = (slice_part r a high low x e ex).0 in
    made_of r (Slice a high low) _ _ _ e refl (moved o part.inside part.inside m) (ap (λ s. slice_sort s high low) part.sorted) (omega arith)
    (λ v env parts. ap (λ t. slice_value t high low) (parts a (same_number a) ∙ ap (value_under v) part.symbol))

pub widen_part : {ns : List Node} {at first : ℕ} {set : ClauseSet} {table : List Symbolic} → IsReady ns at set first table → (a width : ℕ) (x : Symbolic) → slice_get ns at ≡ Some (Widen a width) → x ≡ get_or table a x → IsPart ns set table a x × IsSome (widen_sort (Some (sort_of x)) width)
widen_part r a width x e ex =
    let part = part_of r (Widen a width) a x e (same_number a) (r.graph.parts _ (Widen a width) e) ex in
    let P : Option Sort → Type 0 = λ o. IsSome (widen_sort o width) in
    (part, subst P part.sorted (node_sorts r (Widen a width) e).1)

pub widen_made : {ns : List Node} {at first : ℕ} {f : ClauseSet} {table : List Symbolic} {made : Symbolic} {one : Literal} → IsReady ns at f first table → IsOne f one → (a width : ℕ) (x : Symbolic) → slice_get ns at ≡ Some (Widen a width) → x ≡ get_or table a x → Moves one x x made (widen_sort (Some (sort_of x)) width) (λ v. widen_value (value_under v x) width) → NodeMade ns at f f first table made
widen_made r o a width x e ex m =
    let part = (widen_part r a width x e ex).0 in
    made_of r (Widen a width) _ _ _ e refl (moved o part.inside part.inside m) (ap (λ s. widen_sort s width) part.sorted) (omega arith)
    (λ v env parts. ap (λ t. widen_value t width) (parts a (same_number a) ∙ ap (value_under v) part.symbol))

pub join_parts : {ns : List Node} {at first : ℕ} {set : ClauseSet} {table : List Symbolic} → IsReady ns at set first table → (a b : ℕ) (x y : Symbolic) → slice_get ns at ≡ Some (Join a b) → x ≡ get_or table a x → y ≡ get_or table b y → IsPart ns set table a x × IsPart ns set table b y × IsSome (join_sort (Some (sort_of x)) (Some (sort_of y)))
join_parts {ns} {at} r a b x y e ex ey =
    let below = r.graph.parts _ (Join a b) e in
    let first = part_of r (Join a b) a x e (or_left (nat_eq a a) (nat_eq a b) (same_number a)) below.0 ex in
    let second = part_of r (Join a b) b y e (or_right (nat_eq b a) (nat_eq b b) (same_number b)) below.1 ey in
    let is : join_sort (sort_at ns a) (sort_at ns b) ≡ join_sort (Some (sort_of x)) (Some (sort_of y)) = ap₂ join_sort first.sorted second.sorted in
    let P : Option Sort → Type 0 = IsSome in
    (first, second, subst P is (node_sorts r (Join a b) e).1)

pub join_made : {ns : List Node} {at first : ℕ} {f : ClauseSet} {table : List Symbolic} {made : Symbolic} {one : Literal} → IsReady ns at f first table → IsOne f one → (a b : ℕ) (x y : Symbolic) → slice_get ns at ≡ Some (Join a b) → x ≡ get_or table a x → y ≡ get_or table b y → Moves one x y made (join_sort (Some (sort_of x)) (Some (sort_of y))) (λ v. join_value (value_under v x) (value_under v y)) → NodeMade ns at f f first table made
join_made r o a b x y e ex ey m =
    let parts_are = join_parts r a b x y e ex ey in
    made_of r (Join a b) _ _ _ e refl (moved o parts_are.0.inside parts_are.1.inside m) (ap₂ join_sort parts_are.0.sorted parts_are.1.sorted) (omega arith)
    (λ v env parts. ap₂ join_value (parts a (or_left (nat_eq a a) (nat_eq a b) (same_number a)) ∙ ap (value_under v) parts_are.0.symbol) (parts b (or_right (nat_eq b a) (nat_eq b b) (same_number b)) ∙ ap (value_under v) parts_are.1.symbol))

-- ---- constants and variables

plain_value : (c : Value) → IsTrue (is_plain (Some (sort_of_value c))) → IsTrue (is_flat_value c)
plain_value (value.Bool b) h = refl
plain_value (value.Word w) h = refl
plain_value (value.Row r) h = absurd (false≢true h)

plain_sort : (s : Sort) → IsTrue (is_plain (Some s)) → IsTrue (is_flat s)
plain_sort sort.Bool h = refl
plain_sort (sort.Word w) h = refl
plain_sort (sort.Row i w) h = absurd (false≢true h)

plain_here : {ns : List Node} {at first : ℕ} {set : ClauseSet} {table : List Symbolic} → IsReady ns at set first table → (n : Node) → slice_get ns at ≡ Some n → IsTrue (is_plain (node_sort (sorts ns) n))
plain_here r n e = let P : Option Sort → Type 0 = λ o. IsTrue (is_plain o) in subst P (node_sorts r n e).0 r.plain

pub constant_flat : {ns : List Node} {at first : ℕ} {set : ClauseSet} {table : List Symbolic} → IsReady ns at set first table → (c : Value) → slice_get ns at ≡ Some (Constant c) → IsTrue (is_flat_value c)
constant_flat r c e = plain_value c (plain_here r (Constant c) e)

pub constant_made : {ns : List Node} {at first : ℕ} {f : ClauseSet} {table : List Symbolic} {made : Symbolic} {one : Literal} → IsReady ns at f first table → IsOne f one → (c : Value) → slice_get ns at ≡ Some (Constant c) → IsConstant one made c → NodeMade ns at f f first table made
constant_made {ns} {at} {first} {f} r o c e k =
    made_of r (Constant c) (Some (sort_of_value c)) 0 (λ v. c) e refl (record {
      extends = extends_same f;
      variables = omega arith;
      inside = record { below = k.below f.variables o.below; limits = k.limits };
      sorted = ap (λ (s : Sort). Some s) (sym k.sorted);
      is = λ v y. k.is v (o.always v y);
    }) refl (omega arith) (λ v env parts. refl)

pub variable_flat : {ns : List Node} {at first : ℕ} {set : ClauseSet} {table : List Symbolic} → IsReady ns at set first table → (k : ℕ) (s : Sort) → slice_get ns at ≡ Some (Variable k s) → IsTrue (is_flat s) × IsTrue (is_sort s) × (first + bits_of s ≤ set.variables)
variable_flat {ns} {at} {first} {set} r k s e =
    let bits : input_bits true (slice_get ns at) ≡ bits_of s = ap (input_bits true) e in
    (plain_sort s (plain_here r (Variable k s) e), r.graph.limits at (Variable k s) e, omega (arith, r.inputs, bits))

pub variable_made : {ns : List Node} {at first : ℕ} {f : ClauseSet} {table : List Symbolic} {made : Symbolic} → IsReady ns at f first table → (k : ℕ) (s : Sort) → slice_get ns at ≡ Some (Variable k s) → IsVariable first made s → NodeMade ns at f f first table made
variable_made {ns} {at} {first} {f} r k s e m =
    let own : own_weight ns at ≡ bits_of s = ap (weight_in ns) e in
    let bits : input_bits true (slice_get ns at) ≡ bits_of s = ap (input_bits true) e in
    record {
      extends = extends_same f;
      variables = omega (arith, own, bits);
      inside = record { below = m.below f.variables (omega (arith, r.inputs, bits)); limits = m.limits };
      sorted = (node_sorts r (Variable k s) e).0 ∙ ap (λ (t : Sort). Some t) (sym m.sorted);
      is = λ v env y shown parts.
          let here = shown k s e in
          value_of_node env ns at (Variable k s) (r.graph.parts at (Variable k s) e) e ∙ sym (m.is v (env k) here.0 here.1);
    }

-- ---- no rows

pub no_get : {ns : List Node} {at first : ℕ} {set : ClauseSet} {table : List Symbolic} → IsReady ns at set first table → (row place : ℕ) → slice_get ns at ≡ Some (Get row place) → ⊥
no_get {ns} {at} {first} {set} {table} r row place e =
    let q = r.parts (Get row place) row e (or_left (nat_eq row row) (nat_eq row place) (same_number row)) in
    let P : Option Sort → Type 0 = λ o. IsSome (get_sort o (sort_at ns place)) in
    symbol_no_get (symbol_in table row) (sort_at ns place) (subst P q.1 (node_sorts r (Get row place) e).1)
  where
    symbol_no_get : (x : Symbolic) (p : Option Sort) → IsSome (get_sort (Some (sort_of x)) p) → ⊥
    symbol_no_get (symbolic.Bool l) p k = false≢true k
    symbol_no_get (symbolic.Word ls) p k = false≢true k

pub no_set : {ns : List Node} {at first : ℕ} {set : ClauseSet} {table : List Symbolic} → IsReady ns at set first table → (row place cell : ℕ) → slice_get ns at ≡ Some (Set row place cell) → ⊥
no_set {ns} {at} {first} {set} {table} r row place cell e =
    let q = r.parts (Set row place cell) row e (first_of_three row place cell) in
    let P : Option Sort → Type 0 = λ o. IsSome (set_sort o (sort_at ns place) (sort_at ns cell)) in
    symbol_no_set (symbol_in table row) (sort_at ns place) (sort_at ns cell) (subst P q.1 (node_sorts r (Set row place cell) e).1)
  where
    symbol_no_set : (x : Symbolic) (p q : Option Sort) → IsSome (set_sort (Some (sort_of x)) p q) → ⊥
    symbol_no_set (symbolic.Bool l) p q k = false≢true k
    symbol_no_set (symbolic.Word ls) p q k = false≢true k

pub no_fill : {ns : List Node} {at first : ℕ} {set : ClauseSet} {table : List Symbolic} → IsReady ns at set first table → (index cell : ℕ) → slice_get ns at ≡ Some (Fill index cell) → ⊥
no_fill {ns} r index cell e = fill_not_plain index (sort_at ns cell) (plain_here r (Fill index cell) e)
  where
    fill_not_plain : (index : ℕ) (o : Option Sort) → IsTrue (is_plain (fill_sort index o)) → ⊥
    fill_not_plain index None h = false≢true h
    fill_not_plain index (Some sort.Bool) h = false≢true h
    fill_not_plain index (Some (sort.Word w)) h = false≢true h
    fill_not_plain index (Some (sort.Row i w)) h = false≢true h
