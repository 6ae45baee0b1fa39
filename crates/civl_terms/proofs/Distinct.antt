-- The nodes of a set stand at one place each.
use Rattle.std.specs.Prelude.{slice_get}
use Rattle.std.specs.List.{IsDistinct as AreApart}
use Rattle.std.proofs.Common.{◌≡◌, ℕ, ◌<◌, Bool, true, false, List, get_or, sym, ap₂, ◌∙◌, inl, inr, arith, Some}
use Rattle.std.proofs.lemmas.Bool.{false≢true, cases_eq, cases_lt}
use Rattle.std.proofs.lemmas.Option.{get_or_from_slice_get, slice_get_within}
use Rattle.std.proofs.lemmas.Map.Keys.{apart_from_distinct}
use Rattle.civl_terms.specs.declared.node.Node.{Node}
use Rattle.civl_terms.specs.Graphs.{IsDistinct}

-- a node isn't equal to one behind it
never_behind : (equal : Node → Node → Bool) → ((n : Node) → equal n n ≡ true) → (ns : List Node) → AreApart equal ns → (i j : ℕ) (n : Node) → i < j → slice_get ns i ≡ Some n → slice_get ns j ≡ Some n → ⊥
never_behind equal same ns apart i j n l e f =
    let apart_here : equal (get_or ns i n) (get_or ns j n) ≡ false = apart_from_distinct equal ns i j n apart l (slice_get_within ns j n f) in
    let both = ap₂ equal (get_or_from_slice_get ns i n n e) (get_or_from_slice_get ns j n n f) in
    false≢true (sym apart_here ∙ both ∙ same n)

pub distinct_places : (equal : Node → Node → Bool) → ((n : Node) → equal n n ≡ true) → (ns : List Node) → AreApart equal ns → IsDistinct ns
distinct_places equal same ns apart i j n e f = elim (cases_eq i j) [
  | inl one ↦ one
  | inr two ↦ elim (cases_lt i j) [
    | inl l ↦ absurd (never_behind equal same ns apart i j n l e f)
    | inr l ↦ absurd (never_behind equal same ns apart j i n (omega arith) f e)
  ]
]
