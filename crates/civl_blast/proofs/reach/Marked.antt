-- The marks of what a term reaches.
use Rattle.std.proofs.Common.{◌≡◌, ℕ, zero, suc, ◌+◌, ◌-◌, ◌<◌, ◌≤◌, Bool, true, false, ◌||◌, nat_eq, List, length, get_or, set, replicate, refl, sym, ap, ap₂, ◌∙◌, subst, inl, inr, arith, Some, add-one, IsTrue, Option}
use Rattle.std.specs.Prelude.{slice_get, if◌then◌else◌}
use Rattle.std.proofs.lemmas.List.{length-set, length-replicate, get_or-set_same, get_or-set_other, get_or-replicate, get_or_past, get_or_read}
use Rattle.std.proofs.lemmas.Bool.{false≢true, cases_eq, eq-eqb, ne_eqb, eqb-true, or_cases, or_left, or_right, cases_lt, cases_Bool, cond-true, cond-false}
use Rattle.std.proofs.lemmas.Option.{same_Some}
use Rattle.std.proofs.Math.Bool.{or-false}
use mathlib.Core.Path.{fun_ext}
use Rattle.civl_terms.specs.declared.node.Node.{Node}
use Rattle.civl_terms.specs.declared.node.Node.TheVariants.{Constant, Variable, One as Once, Two as Twice, Pick, Get, Set, Fill, Slice, Widen, Join}
use Rattle.civl_terms.specs.Graphs.{PartsBelow}
use Rattle.civl_terms.specs.Weights.{is_part, own_weight, with_parts, reached_weight, term_weight}
use Rattle.civl_blast.specs.reach.Reaching.{Reaches}
use Rattle.civl_blast.specs.reach.Marks.{marked, weight_from, IsMarking}

unmarked : (n i : ℕ) → get_or (replicate n false) i false ≡ false
unmarked n i = elim (cases_lt i n) [
  | inl h ↦ get_or-replicate n i false false h
  | inr h ↦ get_or_past (replicate n false) i false (omega (arith, length-replicate n false))
]

one_mark : (n id i : ℕ) → id < n → marked (set (replicate n false) id true) i ≡ nat_eq i id
one_mark n id i h = elim (cases_eq i id) [
  | inl e ↦ ap (λ (k : ℕ). get_or (set (replicate n false) id true) k false) e ∙ get_or-set_same (replicate n false) id true false (omega (arith, length-replicate n false)) ∙ sym (eq-eqb i id e)
  | inr d ↦ get_or-set_other (replicate n false) id i true false d ∙ unmarked n i ∙ sym (ne_eqb i id d)
]

reached-same : (ns : List Node) (n : ℕ) (f g : ℕ → Bool) → ((i : ℕ) → f i ≡ g i) → reached_weight ns n f ≡ reached_weight ns n g
reached-same ns n f g h = let e : f ≡ g = fun_ext h in ap (reached_weight ns n) e

pub marks_start : (ns : List Node) (id n : ℕ) (marks : List Bool) → n ≡ id + 1 → marks ≡ set (replicate n false) id true → IsMarking ns id (id + 1) marks
unfolding term_weight
marks_start ns id n marks en e =
    let is : (i : ℕ) → marked marks i ≡ nat_eq i id = λ i. ap (λ (ms : List Bool). marked ms i) e ∙ one_mark n id i (omega arith) in
    let at : (i : ℕ) → IsTrue (marked marks i) → i ≡ id = λ i h. eqb-true i id (sym (is i) ∙ h) in
    let R : ℕ → Type 0 = Reaches ns id in
    record {
      size = ap length e ∙ length-set (replicate n false) id true ∙ length-replicate n false ∙ en;
      first = is id ∙ eq-eqb id id refl;
      closed = λ i k n l h. absurd (omega (arith, at i h));
      only = λ i h. subst R (sym (at i h)) Reaches.itself;
      weighs =
          let z : id + 1 - (id + 1) ≡ 0 = omega arith in
          ap₂ (λ (a b : ℕ). a + b) (reached-same ns (id + 1) (marked marks) (λ i. nat_eq i id) is) (ap (weight_from ns marks (id + 1)) z) ∙ omega arith;
    }

weight-same : (ns : List Node) (ms ls : List Bool) (at k : ℕ) → ((i : ℕ) → at ≤ i → marked ms i ≡ marked ls i) → weight_from ns ms at k ≡ weight_from ns ls at k
weight-same ns ms ls at zero h = refl
weight-same ns ms ls at (suc k) h =
    ap₂ (λ (b : Bool) (w : ℕ). (if b then own_weight ns at else 0) + w) (h at (omega arith)) (weight-same ns ms ls (at + 1) k (λ i l. h i (omega arith)))

pub weight-more : (ns : List Node) (ms : List Bool) (at k n : ℕ) → n ≡ k + 1 → weight_from ns ms at n ≡ (if marked ms at then own_weight ns at else 0) + weight_from ns ms (at + 1) k
weight-more ns ms at k n e = ap (weight_from ns ms at) (e ∙ add-one k)

reached-more : (ns : List Node) (i : ℕ) (f : ℕ → Bool) → reached_weight ns (i + 1) f ≡ (if f i then reached_weight ns i (with_parts (slice_get ns i) f) + own_weight ns i else reached_weight ns i f)
reached-more ns i f = ap (λ (n : ℕ). reached_weight ns n f) (add-one i)

pub marks_skip : (ns : List Node) (id at : ℕ) (ms : List Bool) → IsMarking ns id (at + 1) ms → at ≤ id → marked ms at ≡ false → IsMarking ns id at ms
marks_skip ns id at ms m h f = record {
  size = m.size;
  first = m.first;
  closed = λ i k n l y s p. elim (cases_eq i at) [
    | inl e ↦ absurd (false≢true (sym f ∙ ap (marked ms) (sym e) ∙ y))
    | inr d ↦ m.closed i k n (omega arith) y s p
  ];
  only = m.only;
  weighs =
      let r = reached-more ns at (marked ms) ∙ cond-false (marked ms at) _ _ f in
      let w = weight-more ns ms at (id + 1 - (at + 1)) (id + 1 - at) (omega arith) ∙ ap (λ (x : ℕ). x + weight_from ns ms (at + 1) (id + 1 - (at + 1))) (cond-false (marked ms at) (own_weight ns at) 0 f) in
      omega (arith, r, w, m.weighs);
}

parts_below : (at k : ℕ) (n : Node) → PartsBelow at n → IsTrue (is_part n k) → k < at
parts_below at k (Constant v) p e = absurd (false≢true e)
parts_below at k (Variable i s) p e = absurd (false≢true e)
parts_below at k (Once op a) p e = omega (arith, eqb-true k a e)
parts_below at k (Twice op a b) p e = elim (or_cases (nat_eq k a) (nat_eq k b) e) [ inl h ↦ omega (arith, eqb-true k a h, p.0) | inr h ↦ omega (arith, eqb-true k b h, p.1) ]
parts_below at k (Pick a b c) p e = elim (or_cases (nat_eq k a) (nat_eq k b || nat_eq k c) e) [
  | inl h ↦ omega (arith, eqb-true k a h, p.0)
  | inr h ↦ elim (or_cases (nat_eq k b) (nat_eq k c) h) [ inl q ↦ omega (arith, eqb-true k b q, p.1) | inr q ↦ omega (arith, eqb-true k c q, p.2) ]
]
parts_below at k (Get a b) p e = elim (or_cases (nat_eq k a) (nat_eq k b) e) [ inl h ↦ omega (arith, eqb-true k a h, p.0) | inr h ↦ omega (arith, eqb-true k b h, p.1) ]
parts_below at k (Set a b c) p e = elim (or_cases (nat_eq k a) (nat_eq k b || nat_eq k c) e) [
  | inl h ↦ omega (arith, eqb-true k a h, p.0)
  | inr h ↦ elim (or_cases (nat_eq k b) (nat_eq k c) h) [ inl q ↦ omega (arith, eqb-true k b q, p.1) | inr q ↦ omega (arith, eqb-true k c q, p.2) ]
]
parts_below at k (Fill i a) p e = omega (arith, eqb-true k a e)
parts_below at k (Slice a i j) p e = omega (arith, eqb-true k a e)
parts_below at k (Widen a w) p e = omega (arith, eqb-true k a e)
parts_below at k (Join a b) p e = elim (or_cases (nat_eq k a) (nat_eq k b) e) [ inl h ↦ omega (arith, eqb-true k a h, p.0) | inr h ↦ omega (arith, eqb-true k b h, p.1) ]

pub part_is_below : (at k : ℕ) (n : Node) → PartsBelow at n → IsTrue (is_part n k) → k < at
part_is_below at k n p e = parts_below at k n p e

later_stay : (at i : ℕ) (n : Node) (ms ls : List Bool) → PartsBelow at n → ((k : ℕ) → marked ls k ≡ (marked ms k || is_part n k)) → at ≤ i → marked ls i ≡ marked ms i
later_stay at i n ms ls p h l = elim (cases_Bool (is_part n i)) [
  | inl t ↦ absurd (omega (arith, parts_below at i n p t))
  | inr f ↦ h i ∙ ap (λ (b : Bool). marked ms i || b) f ∙ or-false (marked ms i)
]

pub marks_more : (ns : List Node) (id at : ℕ) (n : Node) (ms ls : List Bool) → IsMarking ns id (at + 1) ms → at ≤ id → marked ms at ≡ true → slice_get ns at ≡ Some n → PartsBelow at n → length ls ≡ length ms → ((k : ℕ) → marked ls k ≡ (marked ms k || is_part n k)) → IsMarking ns id at ls
marks_more ns id at n ms ls m h t s p size is =
    let keeps : (k : ℕ) → IsTrue (marked ms k) → IsTrue (marked ls k) = λ k y. is k ∙ or_left (marked ms k) (is_part n k) y in
    let stay : (i : ℕ) → at ≤ i → marked ls i ≡ marked ms i = λ i l. later_stay at i n ms ls p is l in
    record {
      size = size ∙ m.size;
      first = keeps id m.first;
      closed = λ i k o l y f q. elim (cases_eq i at) [
        | inl e ↦
            let same : Some o ≡ Some n = sym f ∙ ap (slice_get ns) e ∙ s in
            let on : o ≡ n = same_Some o n same in
            is k ∙ or_right (marked ms k) (is_part n k) (sym (ap (λ (z : Node). is_part z k) on) ∙ q)
        | inr d ↦ keeps k (m.closed i k o (omega arith) (sym (stay i l) ∙ y) f q)
      ];
      only = λ i y. elim (or_cases (marked ms i) (is_part n i) (sym (is i) ∙ y)) [
        | inl o ↦ m.only i o
        | inr q ↦ Reaches.part at i n (m.only at t) s q
      ];
      weighs =
          let r = reached-more ns at (marked ms) ∙ cond-true (marked ms at) _ _ t in
          let g = reached-same ns at (marked ls) (with_parts (slice_get ns at) (marked ms)) (λ i. is i ∙ sym (ap (λ (o : Option Node). with_parts o (marked ms) i) s)) in
          let w = weight-more ns ls at (id + 1 - (at + 1)) (id + 1 - at) (omega arith) ∙ ap (λ (x : ℕ). x + weight_from ns ls (at + 1) (id + 1 - (at + 1))) (cond-true (marked ls at) (own_weight ns at) 0 (keeps at t)) in
          let z = weight-same ns ls ms (at + 1) (id + 1 - (at + 1)) (λ i l. stay i (omega arith)) in
          omega (arith, r, g, w, z, m.weighs);
    }

-- ---- the steps of the loop

pub loop_begins : (ns : List Node) (id left : ℕ) (old marks : List Bool) → left ≡ id + 1 → old ≡ replicate (id + 1) false → marks ≡ set old id true → IsMarking ns id left marks
loop_begins ns id left old marks el eo em =
    let P : ℕ → Type 0 = λ k. IsMarking ns id k marks in
    subst P (sym el) (marks_start ns id (id + 1) marks refl (em ∙ ap (λ (ms : List Bool). set ms id true) eo))

pub loop_skips : (ns : List Node) (id at left next : ℕ) (ms ls : List Bool) (b : Bool) → IsMarking ns id left ms → at ≤ id → left ≡ at + 1 → next ≡ at → b ≡ get_or ms at b → b ≡ false → ls ≡ ms → IsMarking ns id next ls
loop_skips ns id at left next ms ls b m h el en eb f es =
    let P : ℕ → Type 0 = λ k. IsMarking ns id k ms in
    let Q : ℕ → Type 0 = λ k. IsMarking ns id k ls in
    let R : List Bool → Type 0 = λ k. IsMarking ns id at k in
    let t : marked ms at ≡ false = sym (get_or_read ms at b (omega (arith, m.size)) eb false) ∙ f in
    subst Q (sym en) (subst R (sym es) (marks_skip ns id at ms (subst P el m) h t))

pub loop_marks : (ns : List Node) (id at left next : ℕ) (n : Node) (ms lent ls back : List Bool) (b : Bool) → IsMarking ns id left ms → at ≤ id → left ≡ at + 1 → next ≡ at → b ≡ get_or ms at b → b ≡ true → slice_get ns at ≡ Some n → PartsBelow at n → lent ≡ ms → length ls ≡ length lent → ((k : ℕ) → marked ls k ≡ (marked lent k || is_part n k)) → back ≡ ls → IsMarking ns id next back
loop_marks ns id at left next n ms lent ls back b m h el en eb f s p ea size is es =
    let P : ℕ → Type 0 = λ k. IsMarking ns id k ms in
    let Q : ℕ → Type 0 = λ k. IsMarking ns id k back in
    let R : List Bool → Type 0 = λ k. IsMarking ns id at k in
    let t : marked ms at ≡ true = sym (get_or_read ms at b (omega (arith, m.size)) eb false) ∙ f in
    let z : (k : ℕ) → marked ls k ≡ (marked ms k || is_part n k) = λ k. is k ∙ ap (λ (xs : List Bool). marked xs k || is_part n k) ea in
    subst Q (sym en) (subst R (sym es) (marks_more ns id at n ms ls (subst P el m) h t s p (size ∙ ap length ea) z))
