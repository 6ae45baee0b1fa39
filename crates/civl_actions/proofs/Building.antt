-- The term of an expression, from the terms of its parts.
use Rattle.std.specs.Prelude.{map, slice_get}
use Rattle.std.proofs.Common.{◌≡◌, ◌∙◌, ℕ, ◌+◌, ◌<◌, ◌≤◌, List, length, sym, ap, arith, Some}
use Rattle.std.proofs.lemmas.List.{get_or-map}
use Rattle.std.proofs.lemmas.Option.{get_or_from_slice_get, slice_get_within}
use Rattle.civl_bits.specs.declared.value.Value.{Value}
use Rattle.civl_bits.specs.declared.value.Value.TheVariants as value
use Rattle.civl_tree.specs.declared.name.Name.{Name}
use Rattle.civl_tree.specs.declared.expr.Sort.TheVariants.{Bool as Truth}
use Rattle.civl_tree.specs.declared.expr.Expr.{Expr, roll-Expr}
use Rattle.civl_tree.specs.declared.expr.Expr.TheFolds.{fold-roll-Expr}
use Rattle.civl_tree.specs.declared.expr.Expr.TheOpen as expr
use Rattle.civl_tree.specs.rules.Scopes.{Scope as Sorts}
use Rattle.civl_tree.specs.rules.Sorts.{sort_of}
use Rattle.civl_firing.specs.values.Operators.{nothing}
use Rattle.civl_firing.specs.values.Values.{HasSort, is_true}
use Rattle.civl_firing.proofs.values.Sorting.{bool_of}
use Rattle.civl_firing.specs.values.Weights.{weight_of}
use Rattle.civl_firing.specs.Eval.{look, value_of, value_step}
use Rattle.civl_firing.specs.Truth.{place_of}
use Rattle.civl_terms.specs.declared.node.Node.{Node}
use Rattle.civl_terms.specs.Graphs.{value_at, sort_at, sorts, IsGraph, Fits}
use Rattle.civl_terms.specs.Weights.{graph_weight}
use Rattle.civl_terms.specs.Building.{Grows}
use Rattle.civl_terms.proofs.Soundness.{nodes_have_their_sorts}
use Rattle.civl_terms.proofs.Operations.{the_sort}
use Rattle.civl_actions.specs.declared.scope.Scope.{Scope}
use Rattle.civl_actions.specs.Scopes.{names_in, meant, ScopeFits, IsTyped, HasTyping, Means}
use Rattle.civl_actions.proofs.Typing.{sort_layer}
use Rattle.civl_actions.proofs.Staying.{sorted_within, fits_stay}

-- the weight of a part that was built after others
pub weighs_from : (old now later : List Node) (scope : Scope) (sorts : Sorts) (e : Expr) (id : ℕ) → Grows old now → ScopeFits old scope sorts → IsTyped sorts e → Means now later scope e id → graph_weight later ≤ graph_weight now + weight_of sorts e
weighs_from old now later scope sorts e id g f t m = m.weighs sorts (fits_stay old now scope sorts g f) t

-- ---- leaves

pub means_here : (ns : List Node) (scope : Scope) (e : Expr) (id : ℕ) → id < length ns → ((env : ℕ → Value) → Fits env ns → value_at env ns id ≡ value_of (meant env ns scope) e) → ((sorts : Sorts) → ScopeFits ns scope sorts → IsTyped sorts e → sort_at ns id ≡ sort_of sorts e) → Means ns ns scope e id
means_here ns scope e id l v s = record {
  within = l;
  is = v;
  sorted = s;
  weighs = λ sorts f t. omega arith;
}

looked_up : (env : ℕ → Value) (ns : List Node) (names : List Name) (ids : List ℕ) (name : Name) (id : ℕ) → slice_get ids (place_of names name) ≡ Some id → look names (map (value_at env ns) ids) name ≡ value_at env ns id
looked_up env ns names ids name id e =
    get_or-map (value_at env ns) ids (place_of names name) id nothing (slice_get_within ids (place_of names name) id e) ∙ ap (value_at env ns) (get_or_from_slice_get ids (place_of names name) id id e)

same_id : (ids : List ℕ) (place i j : ℕ) → slice_get ids place ≡ Some i → slice_get ids place ≡ Some j → i ≡ j
same_id ids place i j e f = let q : Some i ≡ Some j = sym e ∙ f in some q
  where
    some : Some i ≡ Some j → i ≡ j
    some q = cc

-- the term that a name stands for
pub name_there : (ns : List Node) (scope : Scope) (name : Name) → HasTyping ns scope (roll-Expr (expr.Name name)) → (id : ℕ) × (slice_get scope.values.now (place_of (names_in scope) name) ≡ Some id) × (id < length ns)
name_there ns scope name h =
    let s = the_sort (sort_of h.0 (roll-Expr (expr.Name name))) h.2.sorted in
    let k = h.1.names name s.0 (sym (sort_layer h.0 (expr.Name name)) ∙ s.1) in
    (k.0, k.1, sorted_within ns k.0 s.0 k.2)

pub old_there : (ns : List Node) (scope : Scope) (name : Name) → HasTyping ns scope (roll-Expr (expr.Old name)) → (id : ℕ) × (slice_get scope.old.now (place_of (names_in scope) name) ≡ Some id) × (id < length ns)
old_there ns scope name h =
    let s = the_sort (sort_of h.0 (roll-Expr (expr.Old name))) h.2.sorted in
    let k = h.1.olds name s.0 (sym (sort_layer h.0 (expr.Old name)) ∙ s.1) in
    (k.0, k.1, sorted_within ns k.0 s.0 k.2)

pub means_name : (ns : List Node) (scope : Scope) (name : Name) (id : ℕ) → slice_get scope.values.now (place_of (names_in scope) name) ≡ Some id → id < length ns → Means ns ns scope (roll-Expr (expr.Name name)) id
means_name ns scope name id e l =
    means_here ns scope (roll-Expr (expr.Name name)) id l
    (λ env g. sym (looked_up env ns (names_in scope) scope.values.now name id e) ∙ sym (fold-roll-Expr Value (value_step (meant env ns scope)) (expr.Name name)))
    (λ sorts f t.
    let s = the_sort (sort_of sorts (roll-Expr (expr.Name name))) t.sorted in
    let k = f.names name s.0 (sym (sort_layer sorts (expr.Name name)) ∙ s.1) in
    ap (sort_at ns) (same_id scope.values.now (place_of (names_in scope) name) id k.0 e k.1) ∙ k.2 ∙ sym s.1)

pub means_old : (ns : List Node) (scope : Scope) (name : Name) (id : ℕ) → slice_get scope.old.now (place_of (names_in scope) name) ≡ Some id → id < length ns → Means ns ns scope (roll-Expr (expr.Old name)) id
means_old ns scope name id e l =
    means_here ns scope (roll-Expr (expr.Old name)) id l
    (λ env g. sym (looked_up env ns (names_in scope) scope.old.now name id e) ∙ sym (fold-roll-Expr Value (value_step (meant env ns scope)) (expr.Old name)))
    (λ sorts f t.
    let s = the_sort (sort_of sorts (roll-Expr (expr.Old name))) t.sorted in
    let k = f.olds name s.0 (sym (sort_layer sorts (expr.Old name)) ∙ s.1) in
    ap (sort_at ns) (same_id scope.old.now (place_of (names_in scope) name) id k.0 e k.1) ∙ k.2 ∙ sym s.1)

pub truth_value : (v : Value) → HasSort v Truth → v ≡ value.Bool (is_true v)
truth_value v h = let b = bool_of v h in b.1 ∙ ap (λ (x : Value). value.Bool (is_true x)) (sym b.1)

pub means_done : (ns : List Node) → IsGraph ns → (scope : Scope) → HasTyping ns scope (roll-Expr expr.Done) → Means ns ns scope (roll-Expr expr.Done) scope.done
means_done ns graph scope h =
    means_here ns scope (roll-Expr expr.Done) scope.done (sorted_within ns scope.done Truth h.1.done)
    (λ env f. truth_value (value_at env ns scope.done) (nodes_have_their_sorts ns graph env f scope.done Truth h.1.done) ∙ sym (fold-roll-Expr Value (value_step (meant env ns scope)) expr.Done))
    (λ sorts f t. f.done ∙ sym (sort_layer sorts expr.Done))

pub means_old_done : (ns : List Node) → IsGraph ns → (scope : Scope) → HasTyping ns scope (roll-Expr expr.OldDone) → Means ns ns scope (roll-Expr expr.OldDone) scope.old_done
means_old_done ns graph scope h =
    means_here ns scope (roll-Expr expr.OldDone) scope.old_done (sorted_within ns scope.old_done Truth h.1.old_done)
    (λ env f. truth_value (value_at env ns scope.old_done) (nodes_have_their_sorts ns graph env f scope.old_done Truth h.1.old_done) ∙ sym (fold-roll-Expr Value (value_step (meant env ns scope)) expr.OldDone))
    (λ sorts f t. f.old_done ∙ sym (sort_layer sorts expr.OldDone))
