-- Each node of a graph has a value of its sort, where the variables have.
use Rattle.std.specs.Prelude.{slice_get, nat_eq, if◌then◌else◌}
use Rattle.std.proofs.Common.{◌≡◌, ◌∙◌, ◌⊎◌, ℕ, zero, suc, ◌<◌, ◌≤◌, Bool, true, false, List, [], ◌∷◌, length, get_or, refl, sym, ap, ap₂, subst, arith, Option, Some, None, inl, inr}
use Rattle.std.proofs.lemmas.Option.{slice_get-get_or, none-some, same_Some}
use Rattle.std.proofs.lemmas.Bool.{cases_lt, eqb-true, eq-eqb, le-leb, false≢true, and_parts}
use Rattle.std.proofs.Math.ListN.{get_or-eq_default}
use Rattle.civl_bits.specs.Word.{IsWord}
use Rattle.civl_bits.specs.Row.{Cells, IsRow}
use Rattle.civl_bits.specs.Value.{IsValue}
use Rattle.civl_bits.specs.declared.value.Value.{Value}
use Rattle.civl_bits.specs.declared.value.Value.TheVariants as value
use Rattle.civl_tree.specs.declared.expr.Sort.{Sort}
use Rattle.civl_tree.specs.declared.expr.Sort.TheVariants as sort
use Rattle.civl_firing.specs.values.Operators.{nothing}
use Rattle.civl_tree.specs.rules.Exprs.{is_width}
use Rattle.civl_firing.specs.values.Values.{HasSort, is_sort, zero_of, sort_of_value}
use Rattle.civl_firing.proofs.values.Zeros.{zeros_have_their_sorts}
use Rattle.civl_firing.proofs.values.Sorting.{Given, word_of, row_of, one_fits, two_fits, pick_fits, get_fits, set_fits, fill_fits, slice_has_sort, widen_has_sort, join_has_sort}
use Rattle.civl_terms.specs.declared.node.Node.{Node}
use Rattle.civl_terms.specs.declared.node.Node.TheVariants.{Constant, Variable, One as Once, Two as Twice, Pick, Get, Set, Fill, Slice, Widen, Join}
use Rattle.civl_terms.specs.Graphs.{PartsBelow, node_value, values, value_in, value_at, node_sort, sorts, sort_in, sort_at, InLimits, IsFree, IsGraph, Fits, NodesHaveTheirSorts}
use Rattle.civl_terms.proofs.Nodes.{value_of_node, sort_of_node, length-sorts}

-- ---- values and their one sort

pub own_sort : (v : Value) → IsValue v → HasSort v (sort_of_value v)
own_sort (value.Bool b) h = (tt, refl)
own_sort (value.Word a) h = (h, eq-eqb a.0 a.0 refl)
own_sort (value.Row r) h = (h, rw (eq-eqb r.index r.index refl, eq-eqb r.width r.width refl) refl)

pub sort_is : (v : Value) (s : Sort) → HasSort v s → sort_of_value v ≡ s
sort_is (value.Bool b) sort.Bool h = refl
sort_is (value.Bool b) (sort.Word w) h = absurd (false≢true h.1)
sort_is (value.Bool b) (sort.Row i w) h = absurd (false≢true h.1)
sort_is (value.Word a) sort.Bool h = absurd (false≢true h.1)
sort_is (value.Word a) (sort.Word w) h = ap (λ (n : ℕ). sort.Word n) (eqb-true a.0 w h.1)
sort_is (value.Word a) (sort.Row i w) h = absurd (false≢true h.1)
sort_is (value.Row r) sort.Bool h = absurd (false≢true h.1)
sort_is (value.Row r) (sort.Word w) h = absurd (false≢true h.1)
sort_is (value.Row r) (sort.Row i w) h =
    let b = and_parts (nat_eq r.index i) (nat_eq r.width w) h.1 in
    ap₂ (λ (m n : ℕ). sort.Row m n) (eqb-true r.index i b.0) (eqb-true r.width w b.1)

pub one_sort_each : (v : Value) (s t : Sort) → HasSort v s → HasSort v t → s ≡ t
one_sort_each v s t h k = sym (sort_is v s h) ∙ sort_is v t k

-- ---- variables

-- env gives a variable a value of its sort
abbrev pub VariableFits : (ℕ → Value) → Node → Type 0
VariableFits env (Variable k s) = HasSort (env k) s
VariableFits env _ = Unit {0}

pub variable_fits : (env : ℕ → Value) (n : Node) → ((k : ℕ) (s : Sort) → n ≡ Variable k s → HasSort (env k) s) → VariableFits env n
variable_fits env (Constant v) h = tt
variable_fits env (Variable k s) h = h k s refl
variable_fits env (Once op a) h = tt
variable_fits env (Twice op a b) h = tt
variable_fits env (Pick c a b) h = tt
variable_fits env (Get row at) h = tt
variable_fits env (Set row at cell) h = tt
variable_fits env (Fill index cell) h = tt
variable_fits env (Slice a high low) h = tt
variable_fits env (Widen a width) h = tt
variable_fits env (Join a b) h = tt

-- ---- a node over parts that have values of their sorts

pub node_fits : (env : ℕ → Value) (vs : List Value) (ss : List (Option Sort)) (k : ℕ) (n : Node) → PartsBelow k n
    → ((i : ℕ) → i < k → Given (sort_in ss i) (value_in vs i)) → InLimits n → VariableFits env n
    → (s : Sort) → node_sort ss n ≡ Some s → HasSort (node_value env vs n) s
node_fits env vs ss k (Constant v) p g l f s e = let q : sort_of_value v ≡ s = cc in subst (HasSort v) q (own_sort v l)
node_fits env vs ss k (Variable a t) p g l f s e = let q : t ≡ s = cc in subst (HasSort (env a)) q f
node_fits env vs ss k (Once op a) p g l f s e = one_fits op (sort_in ss a) (value_in vs a) (g a p) s e
node_fits env vs ss k (Twice op a b) p g l f s e = two_fits op (sort_in ss a) (sort_in ss b) (value_in vs a) (value_in vs b) (g a p.0) (g b p.1) s e
node_fits env vs ss k (Pick c a b) p g l f s e = pick_fits (sort_in ss c) (sort_in ss a) (sort_in ss b) (value_in vs c) (value_in vs a) (value_in vs b) (g c p.0) (g a p.1) (g b p.2) s e
node_fits env vs ss k (Get row at) p g l f s e = get_fits (sort_in ss row) (sort_in ss at) (value_in vs row) (value_in vs at) (g row p.0) (g at p.1) s e
node_fits env vs ss k (Set row at cell) p g l f s e = set_fits (sort_in ss row) (sort_in ss at) (sort_in ss cell) (value_in vs row) (value_in vs at) (value_in vs cell) (g row p.0) (g at p.1) (g cell p.2) s e
node_fits env vs ss k (Fill index cell) p g l f s e = fill_fits index (sort_in ss cell) (value_in vs cell) (g cell p) l s e
node_fits env vs ss k (Slice a high low) p g l f s e = slice_has_sort (sort_in ss a) (value_in vs a) high low (g a p) s e
node_fits env vs ss k (Widen a width) p g l f s e = widen_has_sort (sort_in ss a) (value_in vs a) width (g a p) s e
node_fits env vs ss k (Join a b) p g l f s e = join_has_sort (sort_in ss a) (sort_in ss b) (value_in vs a) (value_in vs b) (g a p.0) (g b p.1) s e

-- ---- all nodes, the first ones first

pub given_below : (ns : List Node) → IsGraph ns → (env : ℕ → Value) → Fits env ns → (k i : ℕ) → i < k → Given (sort_at ns i) (value_at env ns i)
given_below ns graph env fits zero i l = absurd (omega arith)
given_below ns graph env fits (suc k) i l = elim (cases_lt i (length ns)) [
  | inl h ↦ at (get_or ns i (Constant nothing)) (slice_get-get_or ns i (Constant nothing) h) (λ j m. given_below ns graph env fits k j (omega arith))
  | inr h ↦ λ t e. absurd (none-some t (sym (get_or-eq_default (sorts ns) None (past h)) ∙ e))
]
  where
    past : length ns ≤ i → length (sorts ns) ≤ i
    past h = omega (arith, length-sorts ns)

    at : (n : Node) → slice_get ns i ≡ Some n → ((j : ℕ) → j < i → Given (sort_at ns j) (value_at env ns j)) → Given (sort_at ns i) (value_at env ns i)
    at n e parts = λ t q.
        subst (λ (v : Value). HasSort v t) (sym (value_of_node env ns i n (graph.parts i n e) e))
        (node_fits env (values env ns) (sorts ns) i n (graph.parts i n e)
        parts
        (graph.limits i n e)
        (variable_fits env n (λ a s f. fits i a s (e ∙ ap (λ (x : Node). Some x) f)))
        t (sym (sort_of_node ns i n (graph.parts i n e) e) ∙ q))

pub nodes_have_their_sorts : NodesHaveTheirSorts
nodes_have_their_sorts ns graph env fits i s e = given_below ns graph env fits (suc i) i (omega arith) s e

-- ---- there are values that fit: the zeros

abbrev zero_here : Node → ℕ → Value → Value
zero_here (Variable j s) k rest = if nat_eq j k then zero_of s else rest
zero_here _ k rest = rest

abbrev pub zeros : List Node → ℕ → Value
zeros [] k = nothing
zeros (n ∷ ns) k = zero_here n k (zeros ns k)

pub number_same : (j k : ℕ) (s t : Sort) → Variable j s ≡ Variable k t → (j ≡ k) × (s ≡ t)
number_same j k s t e = (cc, cc)

here : (n : Node) (k : ℕ) (s : Sort) (rest : Value) → ((t : Sort) → n ≡ Variable k t → t ≡ s) → (rest ≡ zero_of s) ⊎ (n ≡ Variable k s) → zero_here n k rest ≡ zero_of s
here (Variable j t) k s rest u e = by (nat_eq j k) refl
  where
    by : (b : Bool) → nat_eq j k ≡ b → (if b then zero_of t else rest) ≡ zero_of s
    by true q = ap zero_of (u t (ap (λ (i : ℕ). Variable i t) (eqb-true j k q)))
    by false q = elim e [
      | inl r ↦ r
      | inr r ↦ absurd (false≢true (sym q ∙ eq-eqb j k (number_same j k t s r).0))
    ]
here (Constant v) k s rest u e = elim e [ inl r ↦ r | inr r ↦ absurd (cc) ]
here (Once op a) k s rest u e = elim e [ inl r ↦ r | inr r ↦ absurd (cc) ]
here (Twice op a b) k s rest u e = elim e [ inl r ↦ r | inr r ↦ absurd (cc) ]
here (Pick c a b) k s rest u e = elim e [ inl r ↦ r | inr r ↦ absurd (cc) ]
here (Get row at) k s rest u e = elim e [ inl r ↦ r | inr r ↦ absurd (cc) ]
here (Set row at cell) k s rest u e = elim e [ inl r ↦ r | inr r ↦ absurd (cc) ]
here (Fill index cell) k s rest u e = elim e [ inl r ↦ r | inr r ↦ absurd (cc) ]
here (Slice a high low) k s rest u e = elim e [ inl r ↦ r | inr r ↦ absurd (cc) ]
here (Widen a width) k s rest u e = elim e [ inl r ↦ r | inr r ↦ absurd (cc) ]
here (Join a b) k s rest u e = elim e [ inl r ↦ r | inr r ↦ absurd (cc) ]

zeros_are : (ns : List Node) (k : ℕ) (s : Sort) (i : ℕ) → slice_get ns i ≡ Some (Variable k s) → IsFree ns k s → zeros ns k ≡ zero_of s
zeros_are [] k s i e u = absurd (cc)
zeros_are (n ∷ ns) k s zero e u = here n k s (zeros ns k) (λ t q. u 0 t (ap (λ (x : Node). Some x) q)) (inr (same_Some n (Variable k s) e))
zeros_are (n ∷ ns) k s (suc i) e u = here n k s (zeros ns k) (λ t q. u 0 t (ap (λ (x : Node). Some x) q)) (inl (zeros_are ns k s i e (λ j t q. u (suc j) t q)))

pub zeros_fit : (ns : List Node) → IsGraph ns → Fits (zeros ns) ns
zeros_fit ns graph i k s e =
    subst (λ (v : Value). HasSort v s) (sym (zeros_are ns k s i e (graph.variables i (Variable k s) e)))
    (zeros_have_their_sorts s (graph.limits i (Variable k s) e))

-- ---- the sorts of nodes are within the limits

word_limits : (w n v : ℕ) → IsWord w n → w ≡ v → is_width v ≡ true
word_limits w n v h e = subst (λ (k : ℕ). is_width k ≡ true) e (rw (le-leb 1 w h.narrow, le-leb w 32 h.wide) refl)

row_limits : (r : Cells) (i w : ℕ) → IsRow r → r.index ≡ i → r.width ≡ w → is_sort (sort.Row i w) ≡ true
row_limits r i w h e f =
    subst (λ (k : ℕ). is_sort (sort.Row k w) ≡ true) e (subst (λ (k : ℕ). is_sort (sort.Row r.index k) ≡ true) f
    (rw (le-leb 1 r.index h.low, le-leb r.index 6 h.high, le-leb 1 r.width h.narrow, le-leb r.width 32 h.wide) refl))

has_limits : (v : Value) (s : Sort) → HasSort v s → is_sort s ≡ true
has_limits v sort.Bool h = refl
has_limits v (sort.Word w) h = let n = word_of v w h in word_limits w n.0 w n.2 refl
has_limits v (sort.Row i w) h = let r = row_of v i w h in row_limits r.0 i w r.2 r.3 r.4

pub sort_limits : (ns : List Node) → IsGraph ns → (i : ℕ) (s : Sort) → sort_at ns i ≡ Some s → is_sort s ≡ true
sort_limits ns graph i s e = has_limits (value_at (zeros ns) ns i) s (nodes_have_their_sorts ns graph (zeros ns) (zeros_fit ns graph) i s e)
