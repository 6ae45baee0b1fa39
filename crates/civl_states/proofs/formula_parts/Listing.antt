-- What lists of terms say stays true while the graph grows, and lists of values are the same one by one.
use Rattle.std.specs.Prelude.{map, take, slice_index_or, IsSome, if◌then◌else◌}
use Rattle.std.proofs.lemmas.List.{map-append}
use Rattle.std.proofs.Common.{◌≡◌, ◌∙◌, ℕ, zero, suc, ◌+◌, ◌<◌, Bool, ◌&&◌, List, [], ◌∷◌, ◌++◌, length, refl, sym, ap, ap₂, subst, arith, Option, Some, None}
use Rattle.civl_bits.specs.declared.value.Value.{Value}
use Rattle.civl_bits.specs.Value.{same_value}
use Rattle.std.proofs.lemmas.Bool.{false≢true}
use Rattle.std.proofs.Math.Bool.{and_assoc, and-true}
use Rattle.civl_tree.specs.declared.expr.Sort.{Sort}
use Rattle.civl_tree.specs.declared.expr.Sort.TheVariants.{Bool as Truth}
use Rattle.civl_tree.specs.declared.expr.Two.TheVariants.{Eq}
use Rattle.civl_tree.specs.rules.Sorts.{two_sort, truth_over}
use Rattle.civl_tree.proofs.Lists.{heads}
use Rattle.civl_firing.specs.values.Operators.{two_value}
use Rattle.civl_firing.specs.values.Weights.{bits_in, two_weight}
use Rattle.civl_firing.proofs.SortLimits.{same_self}
use Rattle.civl_terms.specs.declared.node.Node.{Node}
use Rattle.civl_terms.specs.Graphs.{value_at, sort_at}
use Rattle.civl_terms.specs.Building.{Lengthens, Grows, Built}
use Rattle.civl_terms.proofs.Growing.{lengthened}
use Rattle.civl_actions.specs.Scopes.{AreOf}
use Rattle.civl_actions.specs.Actions.{values_at}
use Rattle.civl_states.specs.formula_parts.Said.{Env, IsTest, IsSaid}
use Rattle.civl_states.specs.formula_parts.Lists.{AreSaid, AreAlike, bits_at}
use Rattle.civl_conditions.specs.Values.{same_values}
use Rattle.civl_actions.proofs.Staying.{sorted_within}

-- ---- while the graph gets longer

sort_after : (old new : List Node) (i : ℕ) (s : Sort) → Lengthens old new → sort_at old i ≡ Some s → sort_at new i ≡ Some s
sort_after old new i s g e = g.sorts i (sorted_within old i s e) ∙ e

pub sorts_after : (old new : List Node) (ids : List ℕ) (ss : List Sort) → Lengthens old new → AreOf old ids ss → AreOf new ids ss
sorts_after old new [] ss g e = e
sorts_after old new (i ∷ ids) [] g e = absurd (cc)
sorts_after old new (i ∷ ids) (s ∷ ss) g e =
    let h = heads (sort_at old i) (Some s) (map (sort_at old) ids) (map (λ (t : Sort). Some t) ss) e in
    ap₂ (λ (a : Option Sort) (os : List (Option Sort)). a ∷ os) (sort_after old new i s g h.0) (sorts_after old new ids ss g h.1)

pub values_after : (old new : List Node) (ids : List ℕ) (ss : List Sort) (env : Env) → Lengthens old new → AreOf old ids ss → values_at env new ids ≡ values_at env old ids
values_after old new [] ss env g e = refl
values_after old new (i ∷ ids) [] env g e = absurd (cc)
values_after old new (i ∷ ids) (s ∷ ss) env g e =
    let h = heads (sort_at old i) (Some s) (map (sort_at old) ids) (map (λ (t : Sort). Some t) ss) e in
    ap₂ (λ (v : Value) (vs : List Value). v ∷ vs) (g.values env i (sorted_within old i s h.0)) (values_after old new ids ss env g h.1)

pub said_after : (old new : List Node) (ids : List ℕ) (ss : List Sort) (f : Env → List Value) → Lengthens old new → AreSaid old ids ss f → AreSaid new ids ss f
said_after old new ids ss f g t = record {
  sorted = sorts_after old new ids ss g t.sorted;
  are = λ env fits. values_after old new ids ss env g t.sorted ∙ t.are env (g.fits env fits);
}

-- ---- while it grows

pub sorts_stay : (old new : List Node) (ids : List ℕ) (ss : List Sort) → Grows old new → AreOf old ids ss → AreOf new ids ss
sorts_stay old new ids ss g e = sorts_after old new ids ss (lengthened old new g) e

pub values_stay : (old new : List Node) (ids : List ℕ) (ss : List Sort) (env : Env) → Grows old new → AreOf old ids ss → values_at env new ids ≡ values_at env old ids
values_stay old new ids ss env g e = values_after old new ids ss env (lengthened old new g) e

pub bits_stay : (old new : List Node) (ids : List ℕ) (ss : List Sort) → Grows old new → AreOf old ids ss → bits_at new ids ≡ bits_at old ids
bits_stay old new [] ss g e = refl
bits_stay old new (i ∷ ids) [] g e = absurd (cc)
bits_stay old new (i ∷ ids) (s ∷ ss) g e =
    let h = heads (sort_at old i) (Some s) (map (sort_at old) ids) (map (λ (t : Sort). Some t) ss) e in
    ap₂ (λ (a b : ℕ). a + b) (ap bits_in (g.sorts i (sorted_within old i s h.0))) (bits_stay old new ids ss g h.1)

pub said_stay : (old new : List Node) (ids : List ℕ) (ss : List Sort) (f : Env → List Value) → Grows old new → AreSaid old ids ss f → AreSaid new ids ss f
said_stay old new ids ss f g t = said_after old new ids ss f (lengthened old new g) t

pub alike_stay : (old new : List Node) (xs ys : List ℕ) → Grows old new → AreAlike old xs ys → AreAlike new xs ys
alike_stay old new xs ys g a = record { sorts = a.sorts; first = sorts_stay old new xs a.sorts g a.first; second = sorts_stay old new ys a.sorts g a.second }

-- ---- joined

pub said_more : (old new : List Node) (ids more : List ℕ) (ss ts : List Sort) (f g : Env → List Value) → Lengthens old new → AreSaid old ids ss f → AreSaid new more ts g → AreSaid new (ids ++ more) (ss ++ ts) (λ env. f env ++ g env)
said_more old new ids more ss ts f g w p q =
    let s = said_after old new ids ss f w p in
    record {
      sorted = map-append (sort_at new) ids more ∙ ap₂ (λ (a b : List (Option Sort)). a ++ b) s.sorted q.sorted ∙ sym (map-append (λ (t : Sort). Some t) ss ts);
      are = λ env fits. map-append (value_at env new) ids more ∙ ap₂ (λ (a b : List Value). a ++ b) (s.are env fits) (q.are env fits);
    }

-- ---- one by one

-- the two terms at a place have one sort
pub alike_at : (ns : List Node) (xs ys : List ℕ) (ss : List Sort) (k : ℕ) → AreOf ns xs ss → AreOf ns ys ss → k < length xs
    → (s : Sort) × (k < length ys) × (sort_at ns (slice_index_or xs k 0) ≡ Some s) × (sort_at ns (slice_index_or ys k 0) ≡ Some s)
alike_at ns [] ys ss k p q l = absurd (omega arith)
alike_at ns (a ∷ xs) ys [] k p q l = absurd (cc)
alike_at ns (a ∷ xs) [] (s ∷ ss) k p q l = absurd (cc)
alike_at ns (a ∷ xs) (b ∷ ys) (s ∷ ss) zero p q l =
    let h = heads (sort_at ns a) (Some s) (map (sort_at ns) xs) (map (λ (t : Sort). Some t) ss) p in
    let i = heads (sort_at ns b) (Some s) (map (sort_at ns) ys) (map (λ (t : Sort). Some t) ss) q in
    (s, omega arith, h.0, i.0)
alike_at ns (a ∷ xs) (b ∷ ys) (s ∷ ss) (suc k) p q l =
    let h = heads (sort_at ns a) (Some s) (map (sort_at ns) xs) (map (λ (t : Sort). Some t) ss) p in
    let i = heads (sort_at ns b) (Some s) (map (sort_at ns) ys) (map (λ (t : Sort). Some t) ss) q in
    let r = alike_at ns xs ys ss k h.1 i.1 (omega (arith, l)) in
    (r.0, omega (arith, r.1), r.2, r.3)

pub alike_long : (ns : List Node) (xs ys : List ℕ) (ss : List Sort) → AreOf ns xs ss → AreOf ns ys ss → length xs ≡ length ys
alike_long ns [] [] ss p q = refl
alike_long ns [] (b ∷ ys) [] p q = absurd (cc)
alike_long ns [] (b ∷ ys) (s ∷ ss) p q = absurd (cc)
alike_long ns (a ∷ xs) ys [] p q = absurd (cc)
alike_long ns (a ∷ xs) [] (s ∷ ss) p q = absurd (cc)
alike_long ns (a ∷ xs) (b ∷ ys) (s ∷ ss) p q =
    let h = heads (sort_at ns a) (Some s) (map (sort_at ns) xs) (map (λ (t : Sort). Some t) ss) p in
    let i = heads (sort_at ns b) (Some s) (map (sort_at ns) ys) (map (λ (t : Sort). Some t) ss) q in
    ap (λ (n : ℕ). suc n) (alike_long ns xs ys ss h.1 i.1)

-- one more place is compared
same_next : (f : ℕ → Value) (xs ys : List ℕ) (k : ℕ) → length xs ≡ length ys → k < length xs
    → (same_values (map f (take k xs)) (map f (take k ys)) && same_value (f (slice_index_or xs k 0)) (f (slice_index_or ys k 0))) ≡ same_values (map f (take (suc k) xs)) (map f (take (suc k) ys))
same_next f [] ys k e l = absurd (omega arith)
same_next f (a ∷ xs) [] k e l = absurd (omega (arith, e))
same_next f (a ∷ xs) (b ∷ ys) zero e l = sym (and-true (same_value (f a) (f b)))
same_next f (a ∷ xs) (b ∷ ys) (suc k) e l =
    and_assoc (same_value (f a) (f b)) (same_values (map f (take k xs)) (map f (take k ys))) (same_value (f (slice_index_or xs k 0)) (f (slice_index_or ys k 0)))
    ∙ ap (λ (x : Bool). same_value (f a) (f b) && x) (same_next f xs ys k (omega (arith, e)) (omega (arith, l)))

pub same_more : (f : ℕ → Value) (xs ys : List ℕ) (k : ℕ) (h : Bool) → length xs ≡ length ys → k < length xs
    → ((h && same_values (map f (take k xs)) (map f (take k ys))) && same_value (f (slice_index_or xs k 0)) (f (slice_index_or ys k 0))) ≡ (h && same_values (map f (take (k + 1) xs)) (map f (take (k + 1) ys)))
same_more f xs ys k h e l =
    let one : suc k ≡ k + 1 = omega arith in
    and_assoc h _ _ ∙ ap (λ (x : Bool). h && x) (subst (λ (n : ℕ). (same_values (map f (take k xs)) (map f (take k ys)) && same_value (f (slice_index_or xs k 0)) (f (slice_index_or ys k 0))) ≡ same_values (map f (take n xs)) (map f (take n ys))) one (same_next f xs ys k e l))

bits_suc : (ns : List Node) (xs : List ℕ) (k : ℕ) → k < length xs → bits_at ns (take (suc k) xs) ≡ bits_at ns (take k xs) + bits_in (sort_at ns (slice_index_or xs k 0))
bits_suc ns [] k l = absurd (omega arith)
bits_suc ns (a ∷ xs) zero l = omega arith
bits_suc ns (a ∷ xs) (suc k) l = omega (arith, bits_suc ns xs k (omega (arith, l)))

pub bits_next : (ns : List Node) (xs : List ℕ) (k : ℕ) → k < length xs → bits_at ns (take (k + 1) xs) ≡ bits_at ns (take k xs) + bits_in (sort_at ns (slice_index_or xs k 0))
bits_next ns xs k l =
    let one : suc k ≡ k + 1 = omega arith in
    subst (λ (n : ℕ). bits_at ns (take n xs) ≡ bits_at ns (take k xs) + bits_in (sort_at ns (slice_index_or xs k 0))) one (bits_suc ns xs k l)

-- ---- equality of two terms

pub eq_sort : (o p : Option Sort) → IsSome o → p ≡ o → two_sort Eq o p ≡ Some Truth
eq_sort None p h e = absurd (false≢true h)
eq_sort (Some s) p h e = ap (two_sort Eq (Some s)) e ∙ ap (λ (b : Bool). truth_over (if b then Some s else None)) (same_self s)

pub same_test : (old new : List Node) (a b id : ℕ) (s : Sort) (f g : Env → Value) → Grows old new → Built old new id (λ env. two_value Eq (value_at env old a) (value_at env old b)) (two_sort Eq (sort_at old a) (sort_at old b)) (two_weight Eq (bits_in (sort_at old a))) → IsSaid old a s f → IsSaid old b s g → IsTest new id (λ env. same_value (f env) (g env))
same_test old new a b id s f g w u p q = record {
  sorted = u.sorted ∙ ap₂ (two_sort Eq) p.sorted q.sorted ∙ eq_sort (Some s) (Some s) refl refl;
  is = λ env fits. u.is env fits ∙ ap₂ (two_value Eq) (p.is env (w.fits env fits)) (q.is env (w.fits env fits));
}

pub some_within : (ns : List Node) (i : ℕ) → IsSome (sort_at ns i) → i < length ns
some_within ns i h = by (sort_at ns i) refl h
  where
    by : (o : Option Sort) → sort_at ns i ≡ o → IsSome o → i < length ns
    by None e h = absurd (false≢true h)
    by (Some s) e h = sorted_within ns i s e
