-- The least number above those of the variables.
use Rattle.std.proofs.Common.{◌≡◌, ℕ, zero, suc, ◌+◌, ◌≤◌, List, [], ◌∷◌, ◌++◌, take, refl, ap, ◌∙◌, arith, Some, Bool, true, false, cond, ltb, eqb, inl, inr}
use Rattle.std.specs.Ordering.{ord_max, nat_cmp, is_lt}
use Rattle.std.proofs.Common.{Less, Equal, Greater}
use Rattle.std.proofs.lemmas.Bool.{cases_lt, cond-true, cond-false, lt-ltb, le-ltb}
use Rattle.std.specs.Prelude.{slice_get, max}
use Rattle.std.proofs.lemmas.List.{take_more}
use Rattle.std.proofs.lemmas.Option.{get_or_from_slice_get, slice_get_within}
use Rattle.civl_terms.specs.declared.node.Node.{Node}
use Rattle.civl_blast.specs.rows.Cells.{number_above, next_number}

pub next-push : (ns : List Node) (n : Node) → next_number (ns ++ n ∷ []) ≡ max (next_number ns) (number_above n)
next-push [] n = omega arith
next-push (m ∷ ns) n = omega (arith, next-push ns n)

pub next-more : (ns : List Node) (i : ℕ) (n : Node) → slice_get ns i ≡ Some n → next_number (take (i + 1) ns) ≡ max (next_number (take i ns)) (number_above n)
next-more ns i n e =
    ap next_number (take_more ns i n (slice_get_within ns i n e) ∙ ap (λ (m : Node). take i ns ++ m ∷ []) (get_or_from_slice_get ns i n n e)) ∙ next-push (take i ns) n

pub next_is_above : (ns : List Node) (i : ℕ) (n : Node) → slice_get ns i ≡ Some n → number_above n ≤ next_number ns
next_is_above [] i n e = absurd (cc)
next_is_above (m ∷ ns) zero n e = let q : m ≡ n = cc in omega (arith, ap number_above q)
next_is_above (m ∷ ns) (suc i) n e = omega (arith, next_is_above ns i n e)

chosen : (s t : Bool) (a b : ℕ) → cond (is_lt (cond s Less (cond t Equal Greater))) a b ≡ cond s a b
chosen true true a b = refl
chosen true false a b = refl
chosen false true a b = refl
chosen false false a b = refl

pub greater_is : (a b : ℕ) → ord_max nat_cmp a b ≡ max a b
greater_is a b = chosen (ltb b a) (eqb b a) a b ∙ elim (cases_lt b a) [
  | inl h ↦ cond-true (ltb b a) a b (lt-ltb b a h) ∙ omega arith
  | inr h ↦ cond-false (ltb b a) a b (le-ltb b a h) ∙ omega arith
]
