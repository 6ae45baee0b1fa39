-- Weights and input bits of the first nodes.
use Rattle.std.specs.Prelude.{slice_get, if◌then◌else◌}
use Rattle.std.proofs.Common.{◌≡◌, ℕ, zero, suc, ◌+◌, ◌-◌, ◌≤◌, List, ◌∙◌, ap, inl, inr, arith, Bool, true, false, Option, Some, None, add-one}
use Rattle.std.proofs.lemmas.Bool.{cases_lt}
use Rattle.civl_terms.specs.declared.node.Node.{Node}
use Rattle.civl_terms.specs.declared.node.Node.TheVariants.{Constant, Variable, One as Once, Two as Twice, Pick, Get, Set, Fill, Slice, Widen, Join}
use Rattle.civl_terms.specs.Weights.{weight_in, own_weight, term_weight}
use Rattle.civl_blast.specs.reach.Marks.{marked, weight_from, IsMarking}
use Rattle.civl_blast.specs.inner.Steps.{input_bits, inputs_before}

abbrev pub marked_weight : List Node → List Bool → ℕ → ℕ
marked_weight ns marks i = if marked marks i then own_weight ns i else 0

weight_further : (ns : List Node) (marks : List Bool) (at count : ℕ) → weight_from ns marks at (suc count) ≡ weight_from ns marks at count + marked_weight ns marks (at + count)
weight_further ns marks at zero = let e : at ≡ at + 0 = omega arith in ap (λ i. marked_weight ns marks i + 0) e ∙ turned (marked_weight ns marks (at + 0)) where
  turned : (n : ℕ) → n + 0 ≡ 0 + n
  turned n = omega arith
weight_further ns marks at (suc count) =
    let e : at + 1 + count ≡ at + suc count = omega arith in
    omega (arith, weight_further ns marks (at + 1) count, ap (marked_weight ns marks) e)

-- the weight of the marked nodes among so many first ones
weight_after : (ns : List Node) (marks : List Bool) (count : ℕ) → weight_from ns marks 0 (suc count) ≡ weight_from ns marks 0 count + marked_weight ns marks count
weight_after ns marks count = let e : 0 + count ≡ count = omega arith in weight_further ns marks 0 count ∙ ap (λ i. weight_from ns marks 0 count + marked_weight ns marks i) e

pub weight_next : (ns : List Node) (marks : List Bool) (count : ℕ) → weight_from ns marks 0 (count + 1) ≡ weight_from ns marks 0 count + marked_weight ns marks count
weight_next ns marks count = ap (weight_from ns marks 0) (add-one count) ∙ weight_after ns marks count

pub weight_whole : {ns : List Node} {id : ℕ} {marks : List Bool} → IsMarking ns id 0 marks → weight_from ns marks 0 (id + 1) ≡ term_weight ns id
weight_whole {ns} {id} {marks} m = let e : id + 1 ≡ id + 1 - 0 = omega arith in ap (weight_from ns marks 0) e ∙ plain (weight_from ns marks 0 (id + 1 - 0)) ∙ m.weighs where
  plain : (n : ℕ) → n ≡ 0 + n
  plain n = omega arith

pub weight_less : (ns : List Node) (marks : List Bool) (i n : ℕ) → i ≤ n → weight_from ns marks 0 i ≤ weight_from ns marks 0 n
weight_less ns marks i zero h = let e : i ≡ 0 = omega arith in omega (arith, ap (weight_from ns marks 0) e)
weight_less ns marks i (suc n) h = elim (cases_lt n i) [
  | inl top ↦ let e : i ≡ suc n = omega arith in omega (arith, ap (weight_from ns marks 0) e)
  | inr low ↦ omega (arith, weight_less ns marks i n low, weight_after ns marks n)
]

pub inputs_next : (ns : List Node) (marks : List Bool) (i : ℕ) → inputs_before ns marks (i + 1) ≡ inputs_before ns marks i + input_bits (marked marks i) (slice_get ns i)
inputs_next ns marks i = ap (inputs_before ns marks) (add-one i)

pub inputs_less : (ns : List Node) (marks : List Bool) (i n : ℕ) → i ≤ n → inputs_before ns marks i ≤ inputs_before ns marks n
inputs_less ns marks i zero h = let e : i ≡ 0 = omega arith in omega (arith, ap (inputs_before ns marks) e)
inputs_less ns marks i (suc n) h = elim (cases_lt n i) [
  | inl top ↦ let e : i ≡ suc n = omega arith in omega (arith, ap (inputs_before ns marks) e)
  | inr low ↦ omega (arith, inputs_less ns marks i n low)
]

bits_light : (ns : List Node) (b : Bool) (o : Option Node) → input_bits b o ≤ (if b then weight_in ns o else 0)
bits_light ns true (Some (Constant c)) = omega arith
bits_light ns true (Some (Variable k s)) = omega arith
bits_light ns true (Some (Once op a)) = omega arith
bits_light ns true (Some (Twice op a b)) = omega arith
bits_light ns true (Some (Pick c a b)) = omega arith
bits_light ns true (Some (Get row at)) = omega arith
bits_light ns true (Some (Set row at cell)) = omega arith
bits_light ns true (Some (Fill index cell)) = omega arith
bits_light ns true (Some (Slice a high low)) = omega arith
bits_light ns true (Some (Widen a width)) = omega arith
bits_light ns true (Some (Join a b)) = omega arith
bits_light ns true None = omega arith
bits_light ns false o = omega arith

-- input bits weigh no more than their variables
pub inputs_light : (ns : List Node) (marks : List Bool) (n : ℕ) → inputs_before ns marks n ≤ weight_from ns marks 0 n
inputs_light ns marks zero = omega arith
inputs_light ns marks (suc n) = omega (arith, inputs_light ns marks n, weight_after ns marks n, bits_light ns (marked marks n) (slice_get ns n))

pub inputs_few : {ns : List Node} {id n : ℕ} {marks : List Bool} → IsMarking ns id 0 marks → n ≤ id + 1 → term_weight ns id ≤ 3200000 → inputs_before ns marks n ≤ 3200000
inputs_few {ns} {id} {n} {marks} m h light = omega (arith, inputs_light ns marks n, weight_less ns marks n (id + 1) h, weight_whole m)
