-- The cells of a row with another cell at an index.
use Rattle.std.proofs.Common.{◌≡◌, ℕ, ◌+◌, ◌*◌, ◌<◌, ◌≤◌, List, [], ◌∷◌, ◌++◌, length, get_or, refl, ap, ap₂, ◌∙◌, arith, Some, Option, IsTrue}
use Rattle.civl_bits.specs.declared.value.Value.TheVariants as value
use Rattle.civl_tree.specs.declared.expr.Sort.{Sort}
use Rattle.civl_tree.specs.declared.expr.Sort.TheVariants as sort
use Rattle.civl_tree.specs.declared.expr.Two.TheVariants.{Eq}
use Rattle.civl_tree.specs.rules.Sorts.{two_sort, pick_sort}
use Rattle.civl_firing.specs.values.Operators.{two_value, pick_value}
use Rattle.civl_firing.specs.values.Weights.{bits_in, two_weight, pick_weight}
use Rattle.civl_terms.specs.declared.node.Node.{Node}
use Rattle.civl_terms.specs.Graphs.{sort_at, value_at}
use Rattle.civl_blast.specs.reach.Reaching.{is_plain}
use Rattle.civl_blast.specs.inner.rows.Making.{Makes, MakesOne, UsesNone, UsesTwo, UsesThree, UsesWrite, written}
use Rattle.civl_blast.proofs.rows.Solid.{all_at}
use Rattle.civl_blast.proofs.rows.Made.{sort_stays, value_stays, eq_sort_is, pick_sort_is, pick_same, makes_more, one_as, one_then}

-- the number, whether the index is it, and the choice
pub written_made : {old first second new : List Node} (index place at cell prev number same id : ℕ) (s : Option Sort)
    → sort_at old at ≡ Some (sort.Word index) → sort_at old cell ≡ s → sort_at old prev ≡ s → IsTrue (is_plain s)
    → MakesOne old first UsesNone number (Some (sort.Word index)) (λ env. value.Word (index, place)) 0
    → MakesOne first second (UsesTwo number at) same (two_sort Eq (sort_at first number) (sort_at first at)) (λ env. two_value Eq (value_at env first number) (value_at env first at)) (two_weight Eq (bits_in (sort_at first number)))
    → MakesOne second new (UsesThree same cell prev) id (pick_sort (sort_at second same) (sort_at second cell) (sort_at second prev)) (λ env. pick_value (value_at env second same) (value_at env second cell) (value_at env second prev)) (pick_weight (bits_in (sort_at second cell)))
    → MakesOne old new (UsesThree at cell prev) id s (λ env. written index (value_at env old at) (value_at env old cell) place (value_at env old prev)) (index + bits_in s)
written_made {old} {first} {second} {new} index place at cell prev number same id s ea ec ep p m n o =
    let w : Option Sort = Some (sort.Word index) in
    let flag : two_sort Eq (sort_at first number) (sort_at first at) ≡ Some sort.Bool = eq_sort_is (sort_at first number) (sort_at first at) w m.sorted (sort_stays at w m.calm.grows ea refl) refl in
    let both : MakesOne old second (UsesThree at cell prev) same (Some sort.Bool) (λ env. two_value Eq (value.Word (index, place)) (value_at env old at)) index =
    one_then (Some sort.Bool) (λ env. two_value Eq (value.Word (index, place)) (value_at env old at)) index (one_as (UsesThree at cell prev) m (λ t u. tt)) n
    (λ u k h c x. (x, c at h.0)) flag
    (λ env f. ap₂ (two_value Eq) (m.is env (n.calm.grows.fits env f)) (value_stays env at w m.calm.grows ea refl))
    (omega (arith, ap bits_in m.sorted)) in
    let g = both.calm.grows in
    one_then s (λ env. written index (value_at env old at) (value_at env old cell) place (value_at env old prev)) (index + bits_in s) both o
    (λ u k h c x. (x, c cell h.1, c prev h.2))
    (ap (λ (z : Option Sort). pick_sort z (sort_at second cell) (sort_at second prev)) both.sorted ∙ pick_is (sort_at second cell) (sort_at second prev) s (sort_stays cell s g ec p) (sort_stays prev s g ep p))
    (λ env f. pick_same (both.is env (o.calm.grows.fits env f)) (value_stays env cell s g ec p) (value_stays env prev s g ep p))
    (omega (arith, ap bits_in (sort_stays cell s g ec p)))
  where
    pick_is : (x y s : Option Sort) → x ≡ s → y ≡ s → pick_sort (Some sort.Bool) x y ≡ s
    pick_is x y s ex ey = pick_sort_is (Some sort.Bool) x y s refl ex ey

times_more : (i w b q : ℕ) → q ≡ b → i * (w + b) + (w + q) ≤ (i + 1) * (w + b)
times_more i w b q e = grind arith

-- one more cell
pub write_step : {old mid new : List Node} {ids : List ℕ} (row : List ℕ) (index at cell i id : ℕ) (s : Option Sort) (out : List ℕ)
    → sort_at old at ≡ Some (sort.Word index) → sort_at old cell ≡ s → sort_at old (get_or row i 0) ≡ s → IsTrue (is_plain s) → i < length row
    → Makes old mid (UsesWrite row at cell) ids i s (λ env k. written index (value_at env old at) (value_at env old cell) k (value_at env old (get_or row k 0))) (i * (index + bits_in s))
    → MakesOne mid new (UsesThree at cell (get_or row i 0)) id (sort_at mid cell) (λ env. written index (value_at env mid at) (value_at env mid cell) i (value_at env mid (get_or row i 0))) (index + bits_in (sort_at mid cell))
    → out ≡ ids ++ id ∷ []
    → Makes old new (UsesWrite row at cell) out (i + 1) s (λ env k. written index (value_at env old at) (value_at env old cell) k (value_at env old (get_or row k 0))) ((i + 1) * (index + bits_in s))
write_step {old} {mid} {new} {ids} row index at cell i id s out ea ec er p h m o eq =
    let g = m.calm.grows in
    let w : Option Sort = Some (sort.Word index) in
    makes_more id ((i + 1) * (index + bits_in s)) out p m o (sort_stays cell s g ec p)
    (λ u v y k. (k at y.1, k cell y.2, k (get_or row i 0) (all_at u row i 0 y.0 h)))
    (λ env. pick_same (ap (two_value Eq (value.Word (index, i))) (value_stays env at w g ea refl)) (value_stays env cell s g ec p) (value_stays env (get_or row i 0) s g er p))
    (times_more i index (bits_in s) (bits_in (sort_at mid cell)) (ap bits_in (sort_stays cell s g ec p)))
    eq
