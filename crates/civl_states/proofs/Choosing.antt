-- Whether stores agree on the globals of a layer, by the terms of those globals alone.
use Rattle.std.specs.Prelude.{map, filter, if◌then◌else◌}
use Rattle.std.proofs.Common.{◌≡◌, ◌∙◌, ℕ, ◌+◌, Bool, true, false, not, ◌&&◌, ◌||◌, List, [], ◌∷◌, ◌++◌, length, refl, sym, ap, ap₂, arith, Some}
use Rattle.std.proofs.lemmas.List.{length-map}
use Rattle.civl_bits.specs.declared.value.Value.{Value}
use Rattle.civl_bits.specs.Value.{same_value}
use Rattle.civl_tree.specs.declared.expr.Sort.{Sort}
use Rattle.civl_tree.specs.declared.program.Global.{Global}
use Rattle.civl_tree.specs.declared.program.Program.{Program}
use Rattle.civl_tree.proofs.Lists.{heads}
use Rattle.civl_firing.specs.values.Weights.{bits_in}
use Rattle.civl_firing.specs.declared.store.Store.{Store}
use Rattle.civl_conditions.specs.footprints.Agreement.{exists_at}
use Rattle.civl_terms.specs.declared.node.Node.{Node}
use Rattle.civl_terms.specs.Graphs.{sort_at, value_at, Fits}
use Rattle.civl_terms.specs.Building.{Grows}
use Rattle.civl_actions.specs.Scopes.{AreOf}
use Rattle.civl_actions.specs.Actions.{values_at}
use Rattle.civl_actions.proofs.Nodes.{are_long}
use Rattle.civl_conditions.specs.Values.{same_values, same_in, same_stores}
use Rattle.civl_states.specs.formula_parts.Said.{Env, IsTest}
use Rattle.civl_states.specs.formula_parts.Given.{bits_of_sorts}
use Rattle.civl_states.specs.formula_parts.Lists.{AreAlike, bits_at}
use Rattle.civl_states.proofs.formula_parts.Saying.{test_where}
use Rattle.civl_states.specs.Stores.{global_sorts, AreStore, AreGlobals}
use Rattle.civl_states.specs.Items.{picked}
use Rattle.civl_states.specs.Same.{TellsSame, layer_sorts, same_weight}
use Rattle.civl_states.proofs.Picking.{map_picked, sorted_long}

-- ---- the same values

same_if : (b : Bool) (v w : Value) (vs ws : List Value) → ((not b || same_value v w) && same_values vs ws) ≡ same_values ((if b then v ∷ [] else []) ++ vs) ((if b then w ∷ [] else []) ++ ws)
same_if true v w vs ws = refl
same_if false v w vs ws = refl

-- stores agree on those globals where the lists of their values are the same
pub same_in_picked : (test : Global → Bool) (gs : List Global) (vs ws : List Value) → length vs ≡ length gs → length ws ≡ length gs → same_in test gs vs ws ≡ same_values (picked test gs vs) (picked test gs ws)
same_in_picked test [] vs ws p q = refl
same_in_picked test (g ∷ gs) [] ws p q = absurd (omega (arith, p))
same_in_picked test (g ∷ gs) (v ∷ vs) [] p q = absurd (omega (arith, q))
same_in_picked test (g ∷ gs) (v ∷ vs) (w ∷ ws) p q =
    ap (λ (b : Bool). (not (test g) || same_value v w) && b) (same_in_picked test gs vs ws (omega (arith, p)) (omega (arith, q))) ∙ same_if (test g) v w (picked test gs vs) (picked test gs ws)

stored_long : (ns : List Node) (program : Program) (ids : List ℕ) (g : Env → Store) → AreStore ns program ids g → (env : Env) → Fits env ns → length (g env).values ≡ length program.globals
stored_long ns program ids g s env fits = ap length (sym (s.are env fits)) ∙ length-map ids (value_at env ns) ∙ sorted_long ns ids (λ g. g.sort) program.globals s.sorted

-- ---- terms

-- the terms of those globals have their sorts
pub picked_are : (ns : List Node) (test : Global → Bool) (gs : List Global) (ids : List ℕ) (ss : List Sort) → AreOf ns ids ss → AreOf ns (picked test gs ids) (picked test gs ss)
picked_are ns test gs ids ss e = map_picked (sort_at ns) test gs ids ∙ ap (picked test gs) e ∙ sym (map_picked (λ (s : Sort). Some s) test gs ss)

pub picked_alike : (ns : List Node) (program : Program) (layer : ℕ) (there back : List ℕ) → AreGlobals ns program there → AreGlobals ns program back
    → AreAlike ns (picked (exists_at layer) program.globals there) (picked (exists_at layer) program.globals back)
picked_alike ns program layer there back p q = record {
  sorts = picked (exists_at layer) program.globals (global_sorts program);
  first = picked_are ns (exists_at layer) program.globals there (global_sorts program) p;
  second = picked_are ns (exists_at layer) program.globals back (global_sorts program) q;
}

pub tells_same : (old new : List Node) (program : Program) (layer : ℕ) (there back : List ℕ) (id : ℕ) → Grows old new
    → IsTest new id (λ env. same_values (values_at env old (picked (exists_at layer) program.globals there)) (values_at env old (picked (exists_at layer) program.globals back)))
    → TellsSame old new program layer there back id
tells_same old new program layer there back id w t = λ g h sg sh. test_where new id _ _ (λ env fits. is g h sg sh env (w.fits env fits)) t
  where
    chosen : (ids : List ℕ) (g : Env → Store) → AreStore old program ids g → (env : Env) → Fits env old → values_at env old (picked (exists_at layer) program.globals ids) ≡ picked (exists_at layer) program.globals (g env).values
    chosen ids g s env fits = map_picked (value_at env old) (exists_at layer) program.globals ids ∙ ap (picked (exists_at layer) program.globals) (s.are env fits)

    is : (g h : Env → Store) → AreStore old program there g → AreStore old program back h → (env : Env) → Fits env old
        → same_values (values_at env old (picked (exists_at layer) program.globals there)) (values_at env old (picked (exists_at layer) program.globals back)) ≡ same_stores (exists_at layer) program (g env) (h env)
    is g h sg sh env fits =
        ap₂ same_values (chosen there g sg env fits) (chosen back h sh env fits)
        ∙ sym (same_in_picked (exists_at layer) program.globals (g env).values (h env).values (stored_long old program there g sg env fits) (stored_long old program back h sh env fits))

-- ---- weights

-- the sorts of those globals
picked_filtered : {A : Type 0} (f : Global → A) (test : Global → Bool) (gs : List Global) → picked test gs (map f gs) ≡ map f (filter test gs)
picked_filtered f test [] = refl
picked_filtered f test (g ∷ gs) = by (test g) (picked_filtered f test gs)
  where
    by : (b : Bool) → picked test gs (map f gs) ≡ map f (filter test gs) → (if b then f g ∷ [] else []) ++ picked test gs (map f gs) ≡ map f (if b then g ∷ filter test gs else filter test gs)
    by true e = ap (λ (xs : List _). f g ∷ xs) e
    by false e = e

bits_sorted : (ns : List Node) (ids : List ℕ) (ss : List Sort) → AreOf ns ids ss → bits_at ns ids ≡ bits_of_sorts ss
bits_sorted ns [] [] e = refl
bits_sorted ns [] (s ∷ ss) e = absurd (cc)
bits_sorted ns (i ∷ ids) [] e = absurd (cc)
bits_sorted ns (i ∷ ids) (s ∷ ss) e =
    let h = heads (sort_at ns i) (Some s) (map (sort_at ns) ids) (map (λ (t : Sort). Some t) ss) e in
    ap₂ (λ (a b : ℕ). a + b) (ap bits_in h.0) (bits_sorted ns ids ss h.1)

-- what comparing terms of these sorts weighs
pub same_weighs : (ns : List Node) (ids : List ℕ) (ss : List Sort) → AreOf ns ids ss → bits_at ns ids + length ids ≡ same_weight ss
same_weighs ns ids ss e = ap₂ (λ (a b : ℕ). a + b) (bits_sorted ns ids ss e) (are_long ns ids ss e)

pub layer_weighs : (ns : List Node) (program : Program) (layer : ℕ) (ids : List ℕ) → AreGlobals ns program ids
    → bits_at ns (picked (exists_at layer) program.globals ids) + length (picked (exists_at layer) program.globals ids) ≡ same_weight (layer_sorts program layer)
layer_weighs ns program layer ids e =
    same_weighs ns _ _ (picked_are ns (exists_at layer) program.globals ids (global_sorts program) e)
    ∙ ap same_weight (picked_filtered (λ g. g.sort) (exists_at layer) program.globals)
