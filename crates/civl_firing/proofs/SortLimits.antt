-- Sorts that keep their limits, and sorts that a test tells apart.
use Rattle.std.proofs.Common.{◌≡◌, true, false, refl, Bool, List, [], ◌∷◌, ap₂}
use Rattle.std.proofs.lemmas.Bool.{not-false, false≢true, eq-eqb, and_parts, and_from}
use Rattle.std.specs.Prelude.{not, ◌&&◌}
use Rattle.civl_tree.specs.declared.action.Param.{Param}
use Rattle.civl_tree.specs.declared.expr.Sort.{Sort}
use Rattle.civl_tree.specs.declared.expr.Sort.TheVariants.{Bool as Truth, Word, Row}
use Rattle.civl_tree.specs.rules.Exprs.{is_index}
use Rattle.civl_tree.specs.rules.Width.{sort_width_fits}
use Rattle.civl_tree.specs.rules.Index.{sort_index}
use Rattle.civl_tree.specs.rules.Sorts.{same_sort}
use Rattle.civl_tree.specs.rules.Signature.{same_mode, same_params}
use Rattle.civl_tree.specs.rules.Uses.{param_sorts}
use Rattle.civl_firing.specs.values.Values.{is_sort}
use Rattle.civl_firing.proofs.values.Sorting.{same_sort-true}

pub limits : (s : Sort) → sort_width_fits s ≡ true → sort_index s ≡ false → is_sort s ≡ true
limits Truth e f = refl
limits (Word w) e f = e
limits (Row i w) e f = rw (not-false (is_index i) f, e) refl

pub linear_sort : (b : Bool) (t s : Sort) → (b && not (same_sort t s)) ≡ false → b ≡ true → t ≡ s
linear_sort true t s e p = same_sort-true t s (not-false (same_sort t s) e)
linear_sort false t s e p = absurd (false≢true p)

pub same_self : (s : Sort) → same_sort s s ≡ true
same_self Truth = refl
same_self (Word w) = eq-eqb w w refl
same_self (Row i w) = and_from _ _ (eq-eqb i i refl) (eq-eqb w w refl)

-- parameters that are the same have the same sorts
pub same_sorts : (params others : List Param) → same_params params others ≡ true → param_sorts params ≡ param_sorts others
same_sorts [] [] e = refl
same_sorts [] (q ∷ qs) e = absurd (false≢true e)
same_sorts (p ∷ ps) [] e = absurd (false≢true e)
same_sorts (p ∷ ps) (q ∷ qs) e =
    let h = and_parts (same_mode p.mode q.mode) (same_sort p.sort q.sort && same_params ps qs) e in
    let k = and_parts (same_sort p.sort q.sort) (same_params ps qs) h.1 in
    ap₂ (λ (s : Sort) (ss : List Sort). s ∷ ss) (same_sort-true p.sort q.sort k.0) (same_sorts ps qs k.1)
