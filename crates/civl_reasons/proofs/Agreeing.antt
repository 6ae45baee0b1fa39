-- The names that an expression reads give its value.
use Rattle.std.proofs.Common.{◌≡◌, Bool, false, not, ◌||◌, inl, inr, List, [], ◌∷◌, ◌++◌, refl, sym, ap, ◌∙◌, subst}
use Rattle.std.specs.List.{AllByRecursion, IsDistinct, filter, list_any}
use Rattle.std.proofs.lemmas.Bool.{cases_Bool}
use Rattle.civl_bits.specs.declared.value.Value.{Value}
use Rattle.civl_bits.specs.declared.value.Value.TheVariants as value
use Rattle.civl_tree.specs.declared.expr.Expr.{Expr, map-Expr}
use Rattle.civl_tree.specs.declared.expr.Expr.TheFolds.{fold-roll-Expr, ind-Expr}
use Rattle.civl_tree.specs.declared.expr.Expr.TheOpen as expr
use Rattle.civl_firing.specs.declared.scope.Scope.{Scope}
use Rattle.civl_firing.specs.Eval.{value_of, value_step}
use Rattle.civl_firing.specs.values.Operators.{one_value, two_value, pick_value, get_value, set_value, fill_value, slice_value, widen_value, join_value}
use Rattle.civl_reasons.specs.Reads.{ReadName, same_read, reads_step, reads_of, each_once}
use Rattle.civl_reasons.specs.Laws.{value_read, ReadNamesSuffice, ReadNamesDiffer, ReadNamesAreAll}
use Rattle.civl_reasons.proofs.Once.{read_is}

-- ---- each once

filter_keeps : (P : ReadName → Type 0) (p : ReadName → Bool) (rs : List ReadName) → AllByRecursion P rs → AllByRecursion P (filter p rs)
filter_keeps P p [] h = tt
filter_keeps P p (r ∷ rs) h = elim (cases_Bool (p r)) [
  | inl y ↦ rw y (h.0, filter_keeps P p rs h.1)
  | inr n ↦ rw n (filter_keeps P p rs h.1)
]

filter_differs : (p : ReadName → Bool) (rs : List ReadName) → IsDistinct same_read rs → IsDistinct same_read (filter p rs)
unfolding IsDistinct
filter_differs p [] h = tt
filter_differs p (r ∷ rs) h = elim (cases_Bool (p r)) [
  | inl y ↦ rw y (filter_keeps (λ s. same_read r s ≡ false) p rs h.0, filter_differs p rs h.1)
  | inr n ↦ rw n (filter_differs p rs h.1)
]

without_same : (r : ReadName) (rs : List ReadName) → AllByRecursion (λ s. same_read r s ≡ false) (filter (λ s. not (same_read r s)) rs)
without_same r [] = tt
without_same r (s ∷ rs) = elim (cases_Bool (same_read r s)) [
  | inl y ↦ rw y (without_same r rs)
  | inr n ↦ rw n (n, without_same r rs)
]

once_differs : (rs : List ReadName) → IsDistinct same_read (each_once rs)
unfolding IsDistinct
once_differs [] = tt
once_differs (r ∷ rs) = (without_same r (each_once rs), filter_differs (λ s. not (same_read r s)) (each_once rs) (once_differs rs))

pub read_names_differ : ReadNamesDiffer
read_names_differ e = once_differs (reads_of e)

-- ---- all of them

-- a test that passes over another reading
filtered_any : (r q : ReadName) (rs : List ReadName) → same_read r q ≡ false → list_any (same_read r) (filter (λ s. not (same_read q s)) rs) ≡ list_any (same_read r) rs
filtered_any r q [] h = refl
filtered_any r q (s ∷ rs) h = elim (cases_Bool (same_read q s)) [
  | inl y ↦
      let other : same_read r s ≡ false = ap (same_read r) (sym (read_is q s y)) ∙ h in
      rw (y, other) (filtered_any r q rs h)
  | inr n ↦ rw n (ap (λ (b : Bool). same_read r s || b) (filtered_any r q rs h))
]

once_all : (r : ReadName) (rs : List ReadName) → list_any (same_read r) (each_once rs) ≡ list_any (same_read r) rs
once_all r [] = refl
once_all r (s ∷ rs) = elim (cases_Bool (same_read r s)) [
  | inl y ↦ rw y refl
  | inr n ↦ rw n (filtered_any r s (each_once rs) n ∙ once_all r rs)
]

pub read_names_are_all : ReadNamesAreAll
read_names_are_all e r = once_all r (reads_of e)

-- ---- values

-- what holds of a reading, and of all others, holds of all
with_same : (P : ReadName → Type 0) (r : ReadName) (rs : List ReadName) → P r → AllByRecursion P (filter (λ s. not (same_read r s)) rs) → AllByRecursion P rs
with_same P r [] own h = tt
with_same P r (s ∷ rs) own h = elim (cases_Bool (same_read r s)) [
  | inl y ↦ (subst P (read_is r s y) own, with_same P r rs own (rw y at h))
  | inr n ↦ let all = rw n at h in (all.0, with_same P r rs own all.1)
]

from_once : (P : ReadName → Type 0) (rs : List ReadName) → AllByRecursion P (each_once rs) → AllByRecursion P rs
from_once P [] h = tt
from_once P (r ∷ rs) h = (h.0, from_once P rs (with_same P r (each_once rs) h.0 h.1))

all_parts : (P : ReadName → Type 0) (rs ss : List ReadName) → AllByRecursion P (rs ++ ss) → AllByRecursion P rs × AllByRecursion P ss
all_parts P [] ss h = (tt, h)
all_parts P (r ∷ rs) ss h = let rest = all_parts P rs ss h.1 in ((h.0, rest.0), rest.1)

module _ (s t : Scope) (done : s.done ≡ t.done) (old_done : s.old_done ≡ t.old_done) where
  abbrev Alike : List ReadName → Type 0
  Alike rs = AllByRecursion (λ r. value_read s r ≡ value_read t r) rs

  parts : (rs ss : List ReadName) → Alike (rs ++ ss) → Alike rs × Alike ss
  parts rs ss h = all_parts (λ r. value_read s r ≡ value_read t r) rs ss h

  abbrev Agrees : Expr → Type 0
  Agrees e = Alike (reads_of e) → value_of s e ≡ value_of t e

  form_agrees : {A : Type 0} (y : expr.Expr-F A) (v : A → Expr) (h : (x : A) → Agrees (v x)) → Alike (reads_step (map-Expr Expr (List ReadName) reads_of (map-Expr A Expr v y))) →
      value_step s (map-Expr Expr Value (value_of s) (map-Expr A Expr v y)) ≡ value_step t (map-Expr Expr Value (value_of t) (map-Expr A Expr v y))
  form_agrees (expr.Name n) v h p = p.0
  form_agrees (expr.Old n) v h p = p.0
  form_agrees expr.Done v h p = ap (λ (b : Bool). value.Bool b) done
  form_agrees expr.OldDone v h p = ap (λ (b : Bool). value.Bool b) old_done
  form_agrees (expr.One op a) v h p = ap (one_value op) (h a p)
  form_agrees (expr.Two op a b) v h p =
      let q = parts (reads_of (v a)) (reads_of (v b)) p in
      ap (λ (x : Value). two_value op x (value_of s (v b))) (h a q.0) ∙ ap (two_value op (value_of t (v a))) (h b q.1)
  form_agrees (expr.Pick c a b) v h p =
      let q = parts (reads_of (v c)) (reads_of (v a) ++ reads_of (v b)) p in
      let r = parts (reads_of (v a)) (reads_of (v b)) q.1 in
      ap (λ (x : Value). pick_value x (value_of s (v a)) (value_of s (v b))) (h c q.0)
      ∙ ap (λ (x : Value). pick_value (value_of t (v c)) x (value_of s (v b))) (h a r.0)
      ∙ ap (pick_value (value_of t (v c)) (value_of t (v a))) (h b r.1)
  form_agrees (expr.Get a b) v h p =
      let q = parts (reads_of (v a)) (reads_of (v b)) p in
      ap (λ (x : Value). get_value x (value_of s (v b))) (h a q.0) ∙ ap (get_value (value_of t (v a))) (h b q.1)
  form_agrees (expr.Set a b c) v h p =
      let q = parts (reads_of (v a)) (reads_of (v b) ++ reads_of (v c)) p in
      let r = parts (reads_of (v b)) (reads_of (v c)) q.1 in
      ap (λ (x : Value). set_value x (value_of s (v b)) (value_of s (v c))) (h a q.0)
      ∙ ap (λ (x : Value). set_value (value_of t (v a)) x (value_of s (v c))) (h b r.0)
      ∙ ap (set_value (value_of t (v a)) (value_of t (v b))) (h c r.1)
  form_agrees (expr.Fill i a) v h p = ap (fill_value i) (h a p)
  form_agrees (expr.Slice a i j) v h p = ap (λ (x : Value). slice_value x i j) (h a p)
  form_agrees (expr.Widen a w) v h p = ap (λ (x : Value). widen_value x w) (h a p)
  form_agrees (expr.Join a b) v h p =
      let q = parts (reads_of (v a)) (reads_of (v b)) p in
      ap (λ (x : Value). join_value x (value_of s (v b))) (h a q.0) ∙ ap (join_value (value_of t (v a))) (h b q.1)
  form_agrees _ v h p = refl

  reads_agree : (e : Expr) → Alike (reads_of e) → value_of s e ≡ value_of t e
  reads_agree e =
      ind-Expr Agrees (λ x y q p.
      fold-roll-Expr Value (value_step s) x
      ∙ ap (λ (d : expr.Expr-F Expr). value_step s (map-Expr Expr Value (value_of s) d)) (sym q)
      ∙ form_agrees y (λ z. z.0) (λ z. z.1)
      (subst (λ (d : expr.Expr-F Expr). Alike (reads_step (map-Expr Expr (List ReadName) reads_of d))) (sym q) (subst Alike (fold-roll-Expr (List ReadName) reads_step x) p))
      ∙ ap (λ (d : expr.Expr-F Expr). value_step t (map-Expr Expr Value (value_of t) d)) q
      ∙ sym (fold-roll-Expr Value (value_step t) x)) e

pub read_names_suffice : ReadNamesSuffice
read_names_suffice s t e h done old_done = reads_agree s t done old_done e (from_once (λ r. value_read s r ≡ value_read t r) (reads_of e) h)
