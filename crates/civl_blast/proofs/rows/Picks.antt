-- The cells of choices.
use Rattle.std.proofs.Common.{◌≡◌, ℕ, ◌+◌, ◌*◌, ◌≤◌, List, [], ◌∷◌, ◌++◌, refl, ap, ◌∙◌, arith, Some, Option, IsTrue}
use Rattle.civl_tree.specs.declared.expr.Sort.{Sort}
use Rattle.civl_tree.specs.declared.expr.Sort.TheVariants as sort
use Rattle.civl_tree.specs.rules.Sorts.{pick_sort}
use Rattle.civl_firing.specs.values.Operators.{pick_value}
use Rattle.civl_firing.specs.values.Weights.{bits_in, pick_weight}
use Rattle.civl_terms.specs.declared.node.Node.{Node}
use Rattle.civl_terms.specs.Graphs.{sort_at, value_at}
use Rattle.civl_terms.specs.Building.{Grows}
use Rattle.civl_blast.specs.reach.Reaching.{is_plain}
use Rattle.civl_blast.specs.inner.rows.Making.{Has, Makes, MakesOne, UsesThree}
use Rattle.civl_blast.proofs.rows.Made.{sort_stays, value_stays, pick_sort_is, pick_same, makes_more}

pub pick_fits : {old mid : List Node} (c x y : ℕ) (s : Option Sort) → Grows old mid → sort_at old c ≡ Some sort.Bool → sort_at old x ≡ s → sort_at old y ≡ s → IsTrue (is_plain s) → pick_sort (sort_at mid c) (sort_at mid x) (sort_at mid y) ≡ s
pick_fits c x y s g ec ex ey p = pick_sort_is _ _ _ s (sort_stays c (Some sort.Bool) g ec refl) (sort_stays x s g ex p) (sort_stays y s g ey p)

pub pick_plain : {old mid : List Node} (c x y : ℕ) (s : Option Sort) → Grows old mid → sort_at old c ≡ Some sort.Bool → sort_at old x ≡ s → sort_at old y ≡ s → IsTrue (is_plain s) → IsTrue (is_plain (pick_sort (sort_at mid c) (sort_at mid x) (sort_at mid y)))
pick_plain c x y s g ec ex ey p = ap is_plain (pick_fits c x y s g ec ex ey p) ∙ p

once_more : (i b q : ℕ) → q ≡ b → i * b + q ≤ (i + 1) * b
once_more i b q e = grind arith

pub pick_step : {old mid new : List Node} {Uses : List ℕ → Type 0} {ids : List ℕ} (a b : ℕ → ℕ) (c i id : ℕ) (s : Option Sort) (out : List ℕ) → sort_at old c ≡ Some sort.Bool → sort_at old (a i) ≡ s → sort_at old (b i) ≡ s → IsTrue (is_plain s) → ((u : List ℕ) → Uses u → Has u c × Has u (a i) × Has u (b i))
    → Makes old mid Uses ids i s (λ env k. pick_value (value_at env old c) (value_at env old (a k)) (value_at env old (b k))) (i * bits_in s)
    → MakesOne mid new (UsesThree c (a i) (b i)) id (pick_sort (sort_at mid c) (sort_at mid (a i)) (sort_at mid (b i))) (λ env. pick_value (value_at env mid c) (value_at env mid (a i)) (value_at env mid (b i))) (pick_weight (bits_in (sort_at mid (a i))))
    → out ≡ ids ++ id ∷ []
    → Makes old new Uses out (i + 1) s (λ env k. pick_value (value_at env old c) (value_at env old (a k)) (value_at env old (b k))) ((i + 1) * bits_in s)
pick_step {old} {mid} {new} {Uses} {ids} a b c i id s out ec ea eb p uses m o eq =
    let g = m.calm.grows in
    makes_more id ((i + 1) * bits_in s) out p m o (pick_fits c (a i) (b i) s g ec ea eb p)
    (λ u v y k. let h = uses u y in (k c h.0, k (a i) h.1, k (b i) h.2))
    (λ env. pick_same (value_stays env c (Some sort.Bool) g ec refl) (value_stays env (a i) s g ea p) (value_stays env (b i) s g eb p))
    (once_more i (bits_in s) (bits_in (sort_at mid (a i))) (ap bits_in (sort_stays (a i) s g ea p)))
    eq
