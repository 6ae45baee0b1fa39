-- The value of a term by those of the variables that it reaches.
use Rattle.std.proofs.Common.{◌≡◌, ℕ, zero, suc, ◌+◌, ◌<◌, ◌≤◌, List, length, refl, sym, ap, ap₂, ◌∙◌, arith, Some, None, Option, IsTrue, eqb, inl, inr}
use Rattle.std.specs.Prelude.{slice_get}
use Rattle.std.proofs.lemmas.Bool.{cases_lt, eq-eqb, or_left, or_right}
use Rattle.std.proofs.lemmas.List.{get_or_past}
use Rattle.std.proofs.lemmas.Option.{slice_get-get_or}
use Rattle.civl_bits.specs.declared.value.Value.{Value}
use Rattle.civl_tree.specs.declared.expr.Sort.{Sort}
use Rattle.civl_firing.specs.values.Operators.{nothing, one_value, two_value, pick_value, get_value, set_value, fill_value, slice_value, widen_value, join_value}
use Rattle.civl_terms.specs.declared.node.Node.{Node}
use Rattle.civl_terms.specs.declared.node.Node.TheVariants.{Constant, Variable, One as Once, Two as Twice, Pick, Get, Set, Fill, Slice, Widen, Join}
use Rattle.civl_terms.specs.Graphs.{IsGraph, node_value, values, value_in, value_at}
use Rattle.civl_terms.specs.Weights.{is_part}
use Rattle.civl_terms.proofs.Along.{length-along}
use Rattle.civl_terms.proofs.Nodes.{value_of_node}
use Rattle.civl_blast.specs.reach.Reaching.{Reaches}
use Rattle.civl_blast.specs.reach.Laws.{AgreeOnReached, ReachedVariablesDecide}
use Rattle.civl_blast.proofs.reach.Marked.{part_is_below}

is : (a : ℕ) → IsTrue (eqb a a)
is a = eq-eqb a a refl

-- a node has one value at parts, and at a variable, of the same values
node_agrees : (env other : ℕ → Value) (vs ws : List Value) (n : Node) → ((k : ℕ) (s : Sort) → n ≡ Variable k s → env k ≡ other k) → ((k : ℕ) → IsTrue (is_part n k) → value_in vs k ≡ value_in ws k) → node_value env vs n ≡ node_value other ws n
node_agrees env other vs ws (Constant v) h p = refl
node_agrees env other vs ws (Variable k s) h p = h k s refl
node_agrees env other vs ws (Once op a) h p = ap (one_value op) (p a (is a))
node_agrees env other vs ws (Twice op a b) h p = ap₂ (two_value op) (p a (or_left _ _ (is a))) (p b (or_right _ _ (is b)))
node_agrees env other vs ws (Pick c a b) h p =
    ap (λ v. pick_value v (value_in vs a) (value_in vs b)) (p c (or_left _ _ (is c)))
    ∙ ap₂ (pick_value (value_in ws c)) (p a (or_right _ _ (or_left _ _ (is a)))) (p b (or_right _ _ (or_right _ _ (is b))))
node_agrees env other vs ws (Get row at) h p = ap₂ get_value (p row (or_left _ _ (is row))) (p at (or_right _ _ (is at)))
node_agrees env other vs ws (Set row at cell) h p =
    ap (λ v. set_value v (value_in vs at) (value_in vs cell)) (p row (or_left _ _ (is row)))
    ∙ ap₂ (set_value (value_in ws row)) (p at (or_right _ _ (or_left _ _ (is at)))) (p cell (or_right _ _ (or_right _ _ (is cell))))
node_agrees env other vs ws (Fill index cell) h p = ap (fill_value index) (p cell (is cell))
node_agrees env other vs ws (Slice a high low) h p = ap (λ v. slice_value v high low) (p a (is a))
node_agrees env other vs ws (Widen a width) h p = ap (λ v. widen_value v width) (p a (is a))
node_agrees env other vs ws (Join a b) h p = ap₂ join_value (p a (or_left _ _ (is a))) (p b (or_right _ _ (is b)))

-- past the nodes all is nothing
none_is_past : (ns : List Node) (i : ℕ) → slice_get ns i ≡ None → length ns ≤ i
none_is_past ns i e = elim (cases_lt i (length ns)) [
  | inl l ↦ absurd (not_both (sym (slice_get-get_or ns i (Constant nothing) l) ∙ e))
  | inr l ↦ l
]
  where
    not_both : {n : Node} → Some n ≡ None → ⊥
    not_both {n} q = cc

past_is_nothing : (env : ℕ → Value) (ns : List Node) (i : ℕ) → length ns ≤ i → value_at env ns i ≡ nothing
unfolding values
past_is_nothing env ns i l = get_or_past (values env ns) i nothing (omega (arith, length-along (node_value env) ns))

no_node : (env other : ℕ → Value) (ns : List Node) (i : ℕ) → slice_get ns i ≡ None → value_at env ns i ≡ value_at other ns i
no_node env other ns i e = past_is_nothing env ns i (none_is_past ns i e) ∙ sym (past_is_nothing other ns i (none_is_past ns i e))

-- a node, once its parts agree
node_at : (ns : List Node) → IsGraph ns → (env other : ℕ → Value) (i : ℕ) → ((n : Node) (k : ℕ) (s : Sort) → slice_get ns i ≡ Some n → n ≡ Variable k s → env k ≡ other k)
    → ((n : Node) (k : ℕ) → slice_get ns i ≡ Some n → IsTrue (is_part n k) → value_at env ns k ≡ value_at other ns k) → value_at env ns i ≡ value_at other ns i
node_at ns graph env other i h parts = by (slice_get ns i) refl
  where
    by : (o : Option Node) → slice_get ns i ≡ o → value_at env ns i ≡ value_at other ns i
    by (Some n) e =
        value_of_node env ns i n (graph.parts i n e) e
        ∙ node_agrees env other (values env ns) (values other ns) n (λ k s q. h n k s e q) (λ k q. parts n k e q)
        ∙ sym (value_of_node other ns i n (graph.parts i n e) e)
    by None e = no_node env other ns i e

-- and so each node that the term reaches, those with smaller numbers first
reached_agree : (ns : List Node) → IsGraph ns → (id : ℕ) (env other : ℕ → Value) → AgreeOnReached ns id env other → (bound i : ℕ) → i < bound → Reaches ns id i → value_at env ns i ≡ value_at other ns i
reached_agree ns graph id env other h zero i l r = absurd (omega arith)
reached_agree ns graph id env other h (suc bound) i l r =
    node_at ns graph env other i
    (λ n k s e q. h i k s r (e ∙ ap (λ (m : Node). Some m) q))
    (λ n k e q. reached_agree ns graph id env other h bound k (omega (arith, l, part_is_below i k n (graph.parts i n e) q)) (Reaches.part i k n r e q))

pub reached_variables_decide : ReachedVariablesDecide
reached_variables_decide ns graph id env other h = reached_agree ns graph id env other h (id + 1) id (omega arith) Reaches.itself
