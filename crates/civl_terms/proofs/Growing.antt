-- A graph with one more node.
use Rattle.std.specs.Prelude.{slice_get, IsSome}
use Rattle.std.proofs.Common.{◌≡◌, ◌∙◌, Bool, true, false, ℕ, ◌+◌, ◌<◌, ◌≤◌, List, [], ◌∷◌, ◌++◌, length, get_or, take, drop, refl, sym, ap, ap₂, subst, arith, Option, Some, None, inl, inr, length-append, take-append-drop, append_assoc}
use Rattle.std.proofs.Math.Seq.{take-append_seam}
use Rattle.std.proofs.lemmas.Bool.{false≢true}
use Rattle.std.proofs.lemmas.List.{take_all, map-append, length-map, get_or-map}
use Rattle.std.proofs.lemmas.Option.{slice_get_within}
use Rattle.civl_bits.specs.declared.value.Value.{Value}
use Rattle.civl_tree.specs.declared.expr.Sort.{Sort}
use Rattle.civl_tree.proofs.Lists.{get_front}
use Rattle.civl_terms.specs.declared.node.Node.{Node}
use Rattle.civl_terms.specs.declared.node.Node.TheVariants.{Constant, Variable, One as Once, Two as Twice, Pick, Get, Set, Fill, Slice, Widen, Join}
use Rattle.civl_terms.specs.Graphs.{PartsBelow, node_value, values, value_at, node_sort, sorts, sort_at, InLimits, IsFree, VariablesFit, IsGraph, HoldsGraph, Fits}
use Rattle.civl_terms.specs.Weights.{node_weight, graph_weight}
use Rattle.civl_terms.specs.Building.{Lengthens, Grows, Numbers, Built}
use Rattle.civl_terms.proofs.Along.{along-push}
use Rattle.civl_terms.proofs.Nodes.{get_slice, values_begin, sorts_begin, value_last, sort_last, value_of_node, sort_of_node, length-sorts}
use Rattle.civl_terms.proofs.Places.{slice_either}
use Rattle.civl_terms.proofs.Soundness.{number_same}
use Rattle.civl_terms.proofs.Weighing.{weight_push}

-- ---- the nodes before

split : (xs ys : List Node) → take (length xs) ys ≡ xs → ys ≡ xs ++ drop (length xs) ys
split xs ys e = sym (take-append-drop (length xs) ys) ∙ ap (λ zs. zs ++ drop (length xs) ys) e

stays : (a b c : List Node) → take (length a) b ≡ a → take (length b) c ≡ b → take (length a) c ≡ a
stays a b c p q =
    let e : c ≡ a ++ (drop (length a) b ++ drop (length b) c) =
    split b c q ∙ ap (λ zs. zs ++ drop (length b) c) (split a b p) ∙ append_assoc a (drop (length a) b) (drop (length b) c) in
    ap (take (length a)) e ∙ take-append_seam a (drop (length a) b ++ drop (length b) c)

pub lengthens_same : (ns : List Node) → Lengthens ns ns
lengthens_same ns = record {
  longer = omega arith;
  stay = take_all (length ns) ns (omega arith);
  values = λ env i l. refl;
  sorts = λ i l. refl;
  fits = λ env f. f;
}

pub lengthens_trans : (a b c : List Node) → Lengthens a b → Lengthens b c → Lengthens a c
lengthens_trans a b c g h = record {
  longer = omega (arith, g.longer, h.longer);
  stay = stays a b c g.stay h.stay;
  values = λ env i l. h.values env i (omega (arith, l, g.longer)) ∙ g.values env i l;
  sorts = λ i l. h.sorts i (omega (arith, l, g.longer)) ∙ g.sorts i l;
  fits = λ env f. g.fits env (h.fits env f);
}

pub lengthens_push : (ns : List Node) (n : Node) → Lengthens ns (ns ++ n ∷ [])
lengthens_push ns n = record {
  longer = omega (arith, length-append ns (n ∷ []));
  stay = take-append_seam ns (n ∷ []);
  values = λ env i l. values_begin env ns (n ∷ []) i l;
  sorts = λ i l. sorts_begin ns (n ∷ []) i l;
  fits = λ env f i k s e. f i k s (get_front ns (n ∷ []) i (Variable k s) e);
}

pub lengthens_kept : (old new : List Node) → new ≡ old → Lengthens old new
lengthens_kept old new e = subst (Lengthens old) (sym e) (lengthens_same old)

pub lengthens_numbered : (old new : List Node) (n : Node) (id : ℕ) → Numbers old new n id → Lengthens old new
lengthens_numbered old new n id h = elim h.adds [
  | inl e ↦ lengthens_kept old new e
  | inr e ↦ subst (Lengthens old) (sym e) (lengthens_push old n)
]

-- ---- the nodes before, and no new variables

-- a graph that only grows, and its variables
with_variables : (old new : List Node) → Lengthens old new → ((i k : ℕ) (s : Sort) → slice_get new i ≡ Some (Variable k s) → slice_get old i ≡ Some (Variable k s)) → Grows old new
with_variables old new g v = record {
  longer = g.longer;
  stay = g.stay;
  values = g.values;
  sorts = g.sorts;
  fits = g.fits;
  variables = v;
}

pub lengthened : (old new : List Node) → Grows old new → Lengthens old new
lengthened old new g = record { longer = g.longer; stay = g.stay; values = g.values; sorts = g.sorts; fits = g.fits }

-- values that fit the old graph fit the new one
pub fits_grown : (old new : List Node) (env : ℕ → Value) → Grows old new → Fits env old → Fits env new
fits_grown old new env g f i k s e = f i k s (g.variables i k s e)

pub grows_same : (ns : List Node) → Grows ns ns
grows_same ns = with_variables ns ns (lengthens_same ns) (λ i k s e. e)

pub grows_trans : (a b c : List Node) → Grows a b → Grows b c → Grows a c
grows_trans a b c g h = with_variables a c (lengthens_trans a b c (lengthened a b g) (lengthened b c h)) (λ i k s e. g.variables i k s (h.variables i k s e))

abbrev pub is_variable : Node → Bool
is_variable (Variable k s) = true
is_variable _ = false

not_variable : (n : Node) (k : ℕ) (s : Sort) → is_variable n ≡ false → Variable k s ≡ n → ⊥
not_variable n k s h e = false≢true (sym h ∙ ap is_variable (sym e))

pub grows_push : (ns : List Node) (n : Node) → is_variable n ≡ false → Grows ns (ns ++ n ∷ [])
grows_push ns n h = with_variables ns (ns ++ n ∷ []) (lengthens_push ns n) (λ i k s e. elim (slice_either ns n (Variable k s) i e) [
  | inl q ↦ q
  | inr q ↦ absurd (not_variable n k s h (sym q.1))
])

pub grows_kept : (old new : List Node) → new ≡ old → Grows old new
grows_kept old new e = subst (Grows old) (sym e) (grows_same old)

pub ruleset growth = (grows_trans, grows_same)

pub grows_numbered : (old new : List Node) (n : Node) (id : ℕ) → is_variable n ≡ false → Numbers old new n id → Grows old new
grows_numbered old new n id v h = elim h.adds [
  | inl e ↦ grows_kept old new e
  | inr e ↦ subst (Grows old) (sym e) (grows_push old n v)
]

-- ---- the new node

abbrev Builds : List Node → Node → ℕ → List Node → Type 0
Builds old n id ns = Built old ns id (λ env. node_value env (values env old) n) (node_sort (sorts old) n) (node_weight (sorts old) n)

pub built_numbered : (old new : List Node) (n : Node) (id : ℕ) → IsGraph old → PartsBelow (length old) n → Numbers old new n id
    → Built old new id (λ env. node_value env (values env old) n) (node_sort (sorts old) n) (node_weight (sorts old) n)
built_numbered old new n id graph p h = elim h.adds [
  | inl e ↦ subst (λ ns. slice_get ns id ≡ Some n → Builds old n id ns) (sym e) there h.is
  | inr e ↦ subst (λ ns. slice_get ns id ≡ Some n → Builds old n id ns) (sym e) added h.is
]
  where
    there : slice_get old id ≡ Some n → Builds old n id old
    there e = record {
      within = (get_slice old id n e).0;
      is = λ env f. value_of_node env old id n (graph.parts id n e) e;
      sorted = sort_of_node old id n (graph.parts id n e) e;
      weighs = omega arith;
    }

    weighs : graph_weight (old ++ n ∷ []) ≤ graph_weight old + node_weight (sorts old) n
    weighs = omega (arith, weight_push old graph n p)

    added : slice_get (old ++ n ∷ []) id ≡ Some n → Builds old n id (old ++ n ∷ [])
    added e = elim (slice_either old n n id e) [
      | inl q ↦
          let l = (get_slice old id n q).0 in
          record {
            within = omega (arith, l, length-append old (n ∷ []));
            is = λ env f. values_begin env old (n ∷ []) id l ∙ value_of_node env old id n (graph.parts id n q) q;
            sorted = sorts_begin old (n ∷ []) id l ∙ sort_of_node old id n (graph.parts id n q) q;
            weighs = weighs;
          }
      | inr q ↦ record {
        within = omega (arith, q.0, length-append old (n ∷ []));
        is = λ env f. ap (value_at env (old ++ n ∷ [])) q.0 ∙ value_last env old n;
        sorted = ap (sort_at (old ++ n ∷ [])) q.0 ∙ sort_last old n;
        weighs = weighs;
      }
    ]

-- ---- it is a graph

free_of : (ns : List Node) (n : Node) (k : ℕ) (s : Sort) → VariablesFit ns n → n ≡ Variable k s → IsFree ns k s
free_of ns n k s h e = subst (VariablesFit ns) e h

fit_if : (ns : List Node) (n : Node) → ((k : ℕ) (s : Sort) → n ≡ Variable k s → IsFree ns k s) → VariablesFit ns n
fit_if ns (Constant v) h = tt
fit_if ns (Variable k s) h = h k s refl
fit_if ns (Once op a) h = tt
fit_if ns (Twice op a b) h = tt
fit_if ns (Pick c a b) h = tt
fit_if ns (Get row at) h = tt
fit_if ns (Set row at cell) h = tt
fit_if ns (Fill index cell) h = tt
fit_if ns (Slice a high low) h = tt
fit_if ns (Widen a width) h = tt
fit_if ns (Join a b) h = tt

-- the variables of the first nodes beside the new one, and the new one beside them
old_free : (ns : List Node) (n m : Node) (i : ℕ) → VariablesFit ns m → VariablesFit ns n → slice_get ns i ≡ Some m → VariablesFit (ns ++ n ∷ []) m
old_free ns n m i h g e = fit_if (ns ++ n ∷ []) m (λ k s q j t f. elim (slice_either ns n (Variable k t) j f) [
  | inl a ↦ free_of ns m k s h q j t a
  | inr a ↦ sym (free_of ns n k t g a.1 i s (e ∙ ap (λ (x : Node). Some x) q))
])

new_free : (ns : List Node) (n : Node) → VariablesFit ns n → VariablesFit (ns ++ n ∷ []) n
new_free ns n g = fit_if (ns ++ n ∷ []) n (λ k s q j t f. elim (slice_either ns n (Variable k t) j f) [
  | inl a ↦ free_of ns n k s g q j t a
  | inr a ↦ (number_same k k t s (sym a.1 ∙ q)).1
])

some_is : (o p : Option Sort) → o ≡ p → IsSome p → IsSome o
some_is o p e h = subst (λ q. IsSome q) (sym e) h

pub graph_push : (ns : List Node) (n : Node) → IsGraph ns → PartsBelow (length ns) n → IsSome (node_sort (sorts ns) n) → InLimits n → VariablesFit ns n → IsGraph (ns ++ n ∷ [])
graph_push ns n graph p s l v = record {
  parts = λ i m e. elim (slice_either ns n m i e) [
    | inl q ↦ graph.parts i m q
    | inr q ↦ subst (λ x. PartsBelow i x) q.1 (subst (λ k. PartsBelow k n) (sym q.0) p)
  ];
  sorted = λ i m e. elim (slice_either ns n m i e) [
    | inl q ↦ some_is (sort_at (ns ++ n ∷ []) i) (sort_at ns i) (sorts_begin ns (n ∷ []) i (slice_get_within ns i m q)) (graph.sorted i m q)
    | inr q ↦ some_is (sort_at (ns ++ n ∷ []) i) (node_sort (sorts ns) n) (ap (sort_at (ns ++ n ∷ [])) q.0 ∙ sort_last ns n) s
  ];
  limits = λ i m e. elim (slice_either ns n m i e) [
    | inl q ↦ graph.limits i m q
    | inr q ↦ subst InLimits q.1 l
  ];
  variables = λ i m e. elim (slice_either ns n m i e) [
    | inl q ↦ old_free ns n m i (graph.variables i m q) v q
    | inr q ↦ subst (VariablesFit (ns ++ n ∷ [])) q.1 (new_free ns n v)
  ];
}

sorts_push : (ns : List Node) (n : Node) → sorts (ns ++ n ∷ []) ≡ sorts ns ++ node_sort (sorts ns) n ∷ []
unfolding sorts
sorts_push ns n = along-push node_sort ns n

pub holds_none : HoldsGraph [] []
unfolding sorts
holds_none = record {
  graph = record {
    parts = λ i n e. absurd (cc);
    sorted = λ i n e. absurd (cc);
    limits = λ i n e. absurd (cc);
    variables = λ i n e. absurd (cc);
  };
  sorts = refl;
}

pub holds_push : (ns : List Node) (ss : List Sort) (n : Node) (s : Sort) → HoldsGraph ns ss → PartsBelow (length ns) n → node_sort (sorts ns) n ≡ Some s → InLimits n → VariablesFit ns n → HoldsGraph (ns ++ n ∷ []) (ss ++ s ∷ [])
holds_push ns ss n s h p e l v = record {
  graph = graph_push ns n h.graph p (some_is (node_sort (sorts ns) n) (Some s) e refl) l v;
  sorts = map-append (λ (t : Sort). Some t) ss (s ∷ []) ∙ ap₂ (λ a b. a ++ b ∷ []) h.sorts (sym e) ∙ sym (sorts_push ns n);
}

-- the same, where the graph is seen by another list that is equal
pub holds_added : (now keys more : List Node) (ss more_sorts : List Sort) (n : Node) (s : Sort) → keys ≡ now → more ≡ keys ++ n ∷ [] → more_sorts ≡ ss ++ s ∷ []
    → HoldsGraph keys ss → PartsBelow (length now) n → node_sort (sorts now) n ≡ Some s → InLimits n → VariablesFit now n → HoldsGraph more more_sorts
holds_added now keys more ss more_sorts n s e f g h p q l v =
    let d = sym e in
    let held = holds_push keys ss n s h (subst (λ ns. PartsBelow (length ns) n) d p) (subst (λ ns. node_sort (sorts ns) n ≡ Some s) d q) l (subst (λ ns. VariablesFit ns n) d v) in
    subst (λ ns. HoldsGraph ns more_sorts) (sym f) (subst (HoldsGraph (keys ++ n ∷ [])) (sym g) held)

-- ---- the sorts beside the nodes

pub holds_length : (ns : List Node) (ss : List Sort) → HoldsGraph ns ss → length ss ≡ length ns
holds_length ns ss h = sym (length-map ss (λ (t : Sort). Some t)) ∙ ap length h.sorts ∙ length-sorts ns

pub holds_sort : (ns : List Node) (ss : List Sort) → HoldsGraph ns ss → (i : ℕ) (s : Sort) → i < length ns → s ≡ get_or ss i s → sort_at ns i ≡ Some s
holds_sort ns ss h i s l e =
    sym (ap (λ os. get_or os i None) h.sorts) ∙ get_or-map (λ (t : Sort). Some t) ss i s None (omega (arith, l, holds_length ns ss h)) ∙ ap (λ (t : Sort). Some t) (sym e)
