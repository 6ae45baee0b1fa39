-- The weight of a graph that grows, and of its terms.
use Rattle.std.specs.Prelude.{slice_get, nat_eq, if◌then◌else◌}
use Rattle.std.proofs.Common.{◌≡◌, ◌∙◌, ℕ, zero, suc, ◌+◌, ◌-◌, ◌<◌, ◌≤◌, Bool, true, false, List, [], ◌∷◌, ◌++◌, length, get_or, refl, sym, ap, ap₂, subst, arith, Some, length-append}
use Rattle.std.proofs.lemmas.Option.{slice_get-get_or}
use Rattle.civl_tree.proofs.Lists.{get_front}
use Rattle.civl_firing.specs.values.Operators.{nothing}
use Rattle.civl_terms.specs.declared.node.Node.{Node}
use Rattle.civl_terms.specs.declared.node.Node.TheVariants.{Constant}
use Rattle.civl_terms.specs.Graphs.{PartsBelow, sorts, IsGraph}
use Rattle.civl_terms.specs.Weights.{node_weight, weight_in, own_weight, first_weight, graph_weight, with_parts, reached_weight, term_weight, TermsWeighLess}
use Rattle.civl_terms.proofs.Nodes.{node_weight-same, sorts_begin}
use Rattle.civl_terms.proofs.Places.{slice_last}

-- ---- the graph

own_begins : (ns : List Node) → IsGraph ns → (n : Node) (i : ℕ) → i < length ns → own_weight (ns ++ n ∷ []) i ≡ own_weight ns i
own_begins ns graph n i h =
    let m = get_or ns i (Constant nothing) in
    let e : slice_get ns i ≡ Some m = slice_get-get_or ns i (Constant nothing) h in
    ap (weight_in (ns ++ n ∷ [])) (get_front ns (n ∷ []) i m e)
    ∙ node_weight-same (sorts (ns ++ n ∷ [])) (sorts ns) i m (graph.parts i m e) (λ j l. sorts_begin ns (n ∷ []) j (omega arith))
    ∙ sym (ap (weight_in ns) e)

first_begins : (ns : List Node) → IsGraph ns → (n : Node) (i : ℕ) → i ≤ length ns → first_weight (ns ++ n ∷ []) i ≡ first_weight ns i
first_begins ns graph n zero h = refl
first_begins ns graph n (suc i) h = ap₂ (λ (a b : ℕ). a + b) (first_begins ns graph n i (omega arith)) (own_begins ns graph n i (omega arith))

pub weight_push : (ns : List Node) → IsGraph ns → (n : Node) → PartsBelow (length ns) n → graph_weight (ns ++ n ∷ []) ≡ graph_weight ns + node_weight (sorts ns) n
unfolding graph_weight
weight_push ns graph n p =
    ap (first_weight (ns ++ n ∷ [])) (length-append ns (n ∷ []) ∙ one (length ns))
    ∙ ap₂ (λ (a b : ℕ). a + b) (first_begins ns graph n (length ns) (omega arith))
    (ap (weight_in (ns ++ n ∷ [])) (slice_last ns n) ∙ node_weight-same (sorts (ns ++ n ∷ [])) (sorts ns) (length ns) n p (λ j l. sorts_begin ns (n ∷ []) j l))
  where
    one : (k : ℕ) → k + 1 ≡ suc k
    one k = omega arith

-- ---- a term

reached_less : (ns : List Node) (i : ℕ) (wanted : ℕ → Bool) → reached_weight ns i wanted ≤ first_weight ns i
reached_less ns zero wanted = omega arith
reached_less ns (suc i) wanted = by (reached_less ns i (with_parts (slice_get ns i) wanted)) (reached_less ns i wanted) (wanted i)
  where
    by : reached_weight ns i (with_parts (slice_get ns i) wanted) ≤ first_weight ns i → reached_weight ns i wanted ≤ first_weight ns i → (b : Bool) → (if b then reached_weight ns i (with_parts (slice_get ns i) wanted) + own_weight ns i else reached_weight ns i wanted) ≤ first_weight ns i + own_weight ns i
    by g h true = omega (arith, g)
    by g h false = omega (arith, h)

first_more : (ns : List Node) (i k : ℕ) → first_weight ns i ≤ first_weight ns (k + i)
first_more ns i zero = let e : i ≡ 0 + i = omega arith in subst (λ j. first_weight ns i ≤ first_weight ns j) e (omega arith)
first_more ns i (suc k) =
    let e : suc (k + i) ≡ suc k + i = omega arith in
    let h = first_more ns i k in
    subst (λ j. first_weight ns i ≤ first_weight ns j) e (more (k + i) h)
  where
    more : (j : ℕ) → first_weight ns i ≤ first_weight ns j → first_weight ns i ≤ first_weight ns (suc j)
    more j h = omega (arith, h)

pub terms_weigh_less : TermsWeighLess
unfolding graph_weight term_weight
terms_weigh_less ns id h =
    let rest = length ns - (id + 1) in
    let e : rest + (id + 1) ≡ length ns = omega arith in
    let a = reached_less ns (id + 1) (λ i. nat_eq i id) in
    let b : first_weight ns (id + 1) ≤ first_weight ns (length ns) = subst (λ k. first_weight ns (id + 1) ≤ first_weight ns k) e (first_more ns (id + 1) rest) in
    omega (arith, a, b)
