-- The terms of an action, put together.
use Rattle.std.specs.Prelude.{map, slice_get, take}
use Rattle.std.proofs.Common.{◌≡◌, ◌∙◌, ℕ, ◌<◌, Bool, false, List, [], ◌++◌, length, refl, sym, ap, ap₂, subst, arith, Some}
use Rattle.std.proofs.lemmas.List.{map-append, append-nil, take_all}
use Rattle.civl_bits.specs.declared.value.Value.{Value}
use Rattle.civl_bits.specs.declared.value.Value.TheVariants as value
use Rattle.civl_tree.specs.declared.name.Name.{Name}
use Rattle.civl_tree.specs.declared.expr.Expr.{Expr}
use Rattle.civl_tree.specs.declared.expr.Sort.{Sort}
use Rattle.civl_tree.specs.declared.expr.Sort.TheVariants.{Bool as Truth}
use Rattle.civl_tree.specs.declared.action.Action.{Action}
use Rattle.civl_tree.specs.declared.action.Choice.{Choice}
use Rattle.civl_tree.specs.declared.action.Param.{Param}
use Rattle.civl_tree.specs.declared.action.Update.{Update}
use Rattle.civl_tree.specs.declared.program.Program.{Program}
use Rattle.civl_tree.specs.rules.Names.{global_names, param_names}
use Rattle.civl_tree.specs.rules.Scopes.{Scope as Sorts, Binding, sort_in, bind_globals, bind_params, gate_scope, guard_scope}
use Rattle.civl_tree.specs.rules.Sorts.{sort_of}
use Rattle.civl_firing.specs.values.Values.{is_true}
use Rattle.civl_firing.specs.declared.scope.Scope.{Scope as Meant}
use Rattle.civl_firing.specs.Eval.{value_of}
use Rattle.civl_firing.specs.Scope.{present_values, zeros_of_params, gate_values, guard_values}
use Rattle.civl_firing.specs.Fired.{gate_holds, updated}
use Rattle.civl_firing.specs.Truth.{place_of}
use Rattle.civl_terms.specs.declared.node.Node.{Node}
use Rattle.civl_terms.specs.Graphs.{value_at, sort_at, IsGraph, Fits}
use Rattle.civl_terms.specs.Building.{Grows, Built}
use Rattle.civl_terms.proofs.Soundness.{nodes_have_their_sorts}
use Rattle.civl_actions.specs.declared.scope.Scope.{Scope}
use Rattle.civl_actions.specs.declared.named.Named.{Named}
use Rattle.civl_actions.specs.Scopes.{names_in, meant, StandsAt, AreOf, ScopeFits, IsTyped, Means}
use Rattle.civl_actions.specs.Actions.{values_at, store_at, IsGate, IsGuard, AreOffers, IsChange}
use Rattle.civl_actions.specs.inner.Steps.{AreZeros, IsNamed, AreOffered, AreUpdated}
use Rattle.civl_actions.proofs.Building.{truth_value}
use Rattle.civl_actions.proofs.Staying.{are_within, are_stay, values_stay}
use Rattle.civl_actions.proofs.Rules.{Kept, gate_typed, gate_sort, guard_typed, guard_sort}
use Rattle.civl_actions.proofs.Scoping.{Found, all_names, Listed, names_found, olds_found}
use Rattle.civl_actions.proofs.Nodes.{are_joined}

-- ---- the scope

-- the terms for an action's names, with these choices: those of the globals, the parameters and the choices, the zeros of its
-- outputs, and that of `done`, which is false
pub record Prepared (ns : List Node) (program : Program) (a : Action) (choices : List Choice) (globals inputs chosen zeros : List ℕ) (nay : ℕ) : Type 0 where
  pub globals_are : AreOf ns globals (map (λ g. g.sort) program.globals)
  pub inputs_are : AreOf ns inputs (map (λ q. q.sort) a.params)
  pub chosen_are : AreOf ns chosen (map (λ c. c.sort) choices)
  pub zeros_are : AreOf ns zeros (map (λ q. q.sort) a.outs)
  pub zero_values : (env : ℕ → Value) → Fits env ns → values_at env ns zeros ≡ zeros_of_params a.outs
  pub no_sort : sort_at ns nay ≡ Some Truth
  pub no_value : (env : ℕ → Value) → Fits env ns → value_at env ns nay ≡ value.Bool false

-- what a scope is made of
pub record Made (sc : Scope) (program : Program) (a : Action) (choices : List Choice) (globals inputs chosen zeros : List ℕ) (nay : ℕ) : Type 0 where
  pub names : names_in sc ≡ all_names program a choices
  pub values : sc.values.now ≡ globals ++ (inputs ++ (chosen ++ zeros))
  pub old : sc.old.now ≡ globals ++ (inputs ++ (chosen ++ zeros))
  pub done : sc.done ≡ nay
  pub old_done : sc.old_done ≡ nay

module _ (ns : List Node) (sc : Scope) (program : Program) (a : Action) (choices : List Choice) (globals inputs chosen zeros : List ℕ) (nay : ℕ)
    (p : Prepared ns program a choices globals inputs chosen zeros nay) (m : Made sc program a choices globals inputs chosen zeros nay) where
  pub listed : Listed ns program a choices globals inputs chosen zeros
  listed = record { globals_are = p.globals_are; inputs_are = p.inputs_are; chosen_are = p.chosen_are; zeros_are = p.zeros_are }

  abbrev ids : List ℕ
  ids = globals ++ (inputs ++ (chosen ++ zeros))

  within : (place id : ℕ) → slice_get ids place ≡ Some id → id < length ns
  within = are_within ns ids (map (λ g. g.sort) program.globals ++ (map (λ q. q.sort) a.params ++ (map (λ c. c.sort) choices ++ map (λ q. q.sort) a.outs)))
      (are_joined ns globals (inputs ++ (chosen ++ zeros)) (map (λ g. g.sort) program.globals) (map (λ q. q.sort) a.params ++ (map (λ c. c.sort) choices ++ map (λ q. q.sort) a.outs)) p.globals_are
      (are_joined ns inputs (chosen ++ zeros) (map (λ q. q.sort) a.params) (map (λ c. c.sort) choices ++ map (λ q. q.sort) a.outs) p.inputs_are
      (are_joined ns chosen zeros (map (λ c. c.sort) choices) (map (λ q. q.sort) a.outs) p.chosen_are p.zeros_are)))

  -- found in the scope
  in_scope : (list : List ℕ) → list ≡ ids → (bindings : List Binding) → Found ns (all_names program a choices) ids bindings → (name : Name) (s : Sort) → sort_in bindings name ≡ Some s → StandsAt ns list (place_of (names_in sc) name) s
  in_scope list e bindings f name s b =
      subst (λ (is : List ℕ). StandsAt ns is (place_of (names_in sc) name) s) (sym e)
      (subst (λ (xs : List Name). StandsAt ns ids (place_of xs name) s) (sym m.names) (f name s b))

  pub scope_fits : (sorts : Sorts) → Found ns (all_names program a choices) ids sorts.names → Found ns (all_names program a choices) ids sorts.olds → ScopeFits ns sc sorts
  scope_fits sorts f g = record {
    values = λ place id e. within place id (ap (λ (is : List ℕ). slice_get is place) (sym m.values) ∙ e);
    olds_there = λ place id e. within place id (ap (λ (is : List ℕ). slice_get is place) (sym m.old) ∙ e);
    names = in_scope sc.values.now m.values sorts.names f;
    olds = in_scope sc.old.now m.old sorts.olds g;
    done = ap (sort_at ns) m.done ∙ p.no_sort;
    old_done = ap (sort_at ns) m.old_done ∙ p.no_sort;
  }

  values_joined : (env : ℕ → Value) → Fits env ns → map (value_at env ns) ids ≡ values_at env ns globals ++ (values_at env ns inputs ++ (values_at env ns chosen ++ zeros_of_params a.outs))
  values_joined env f =
      map-append (value_at env ns) globals (inputs ++ (chosen ++ zeros))
      ∙ ap (λ (vs : List Value). values_at env ns globals ++ vs) (map-append (value_at env ns) inputs (chosen ++ zeros)
      ∙ ap (λ (vs : List Value). values_at env ns inputs ++ vs) (map-append (value_at env ns) chosen zeros ∙ ap (λ (vs : List Value). values_at env ns chosen ++ vs) (p.zero_values env f)))

  pub scope_meant : (env : ℕ → Value) → Fits env ns → meant env ns sc ≡ present_values (all_names program a choices) (values_at env ns globals ++ (values_at env ns inputs ++ (values_at env ns chosen ++ zeros_of_params a.outs)))
  scope_meant env f =
      let vs : map (value_at env ns) sc.values.now ≡ values_at env ns globals ++ (values_at env ns inputs ++ (values_at env ns chosen ++ zeros_of_params a.outs)) = ap (map (value_at env ns)) m.values ∙ values_joined env f in
      let os : map (value_at env ns) sc.old.now ≡ values_at env ns globals ++ (values_at env ns inputs ++ (values_at env ns chosen ++ zeros_of_params a.outs)) = ap (map (value_at env ns)) m.old ∙ values_joined env f in
      let d : is_true (value_at env ns sc.done) ≡ false = ap (λ i. is_true (value_at env ns i)) m.done ∙ ap is_true (p.no_value env f) in
      let e : is_true (value_at env ns sc.old_done) ≡ false = ap (λ i. is_true (value_at env ns i)) m.old_done ∙ ap is_true (p.no_value env f) in
      same (names_in sc) (all_names program a choices) (map (value_at env ns) sc.values.now) _ (map (value_at env ns) sc.old.now) _ (is_true (value_at env ns sc.done)) false (is_true (value_at env ns sc.old_done)) false m.names vs os d e
    where
      same : (xs xs2 : List Name) (vs vs2 os os2 : List Value) (d d2 e e2 : Bool) → xs ≡ xs2 → vs ≡ vs2 → os ≡ os2 → d ≡ d2 → e ≡ e2
          → ◌≡◌ {A = Meant} (record { names = xs; values = vs; old = os; done = d; old_done = e }) (record { names = xs2; values = vs2; old = os2; done = d2; old_done = e2 })
      same xs xs2 vs vs2 os os2 d d2 e e2 p q r s t =
          ap (λ (z : List Name). record { names = z; values = vs; old = os; done = d; old_done = e }) p
          ∙ ap (λ (z : List Value). record { names = xs2; values = z; old = os; done = d; old_done = e }) q
          ∙ ap (λ (z : List Value). record { names = xs2; values = vs2; old = z; done = d; old_done = e }) r
          ∙ ap (λ (z : Bool). record { names = xs2; values = vs2; old = os2; done = z; old_done = e }) s
          ∙ ap (λ (z : Bool). record { names = xs2; values = vs2; old = os2; done = d2; old_done = z }) t

-- ---- a scope, from terms of an earlier graph

-- the scope fits these sorts, and its names stand for these values
pub record Sees (ns : List Node) (sc : Scope) (sorts : Sorts) (meaning : (ℕ → Value) → Meant) : Type 0 where
  pub fits : ScopeFits ns sc sorts
  pub means : (env : ℕ → Value) → Fits env ns → meant env ns sc ≡ meaning env

prepared : (old ns : List Node) (program : Program) (a : Action) (choices : List Choice) (globals inputs chosen : List ℕ) (n : Named)
    → AreOf old globals (map (λ g. g.sort) program.globals) → AreOf old inputs (map (λ q. q.sort) a.params) → AreOf old chosen (map (λ c. c.sort) choices)
    → Grows old ns → IsNamed old ns a.outs globals inputs chosen n → Prepared ns program a choices globals inputs chosen n.zeros.items n.no
prepared old ns program a choices globals inputs chosen n hg hi hc g is = record {
  globals_are = are_stay old ns globals (map (λ q. q.sort) program.globals) hg g;
  inputs_are = are_stay old ns inputs (map (λ q. q.sort) a.params) hi g;
  chosen_are = are_stay old ns chosen (map (λ c. c.sort) choices) hc g;
  zeros_are = is.zeros_are;
  zero_values = is.zero_values;
  no_sort = is.no_sort;
  no_value = is.no_value;
}

-- a gate's scope, also that of the offers
pub gate_sees : (old ns : List Node) (sc : Scope) (program : Program) (a : Action) (globals inputs : List ℕ) (n : Named) → Kept program a
    → AreOf old globals (map (λ g. g.sort) program.globals) → AreOf old inputs (map (λ q. q.sort) a.params) → Grows old ns → IsNamed old ns a.outs globals inputs [] n
    → Made sc program a [] globals inputs [] n.zeros.items n.no → Sees ns sc (gate_scope program a) (λ env. gate_values program.globals (store_at env old globals) a (values_at env old inputs))
gate_sees old ns sc program a globals inputs n k hg hi g is m =
    let zeros = n.zeros.items in
    let p = prepared old ns program a [] globals inputs [] n hg hi refl g is in
    let l = listed ns sc program a [] globals inputs [] zeros n.no p m in
    let names : Found ns (all_names program a []) (globals ++ (inputs ++ ([] ++ zeros))) (gate_scope program a).names =
    subst (λ (bs : List Binding). Found ns (all_names program a []) (globals ++ (inputs ++ ([] ++ zeros))) (bind_globals program.globals ++ bs)) (append-nil (bind_params a.params))
    (names_found ns program a [] globals inputs [] zeros l) in
    record {
      fits = scope_fits ns sc program a [] globals inputs [] zeros n.no p m (gate_scope program a) names (olds_found ns program a [] globals inputs [] zeros l k (λ name e. refl));
      means = λ env f.
          scope_meant ns sc program a [] globals inputs [] zeros n.no p m env f
          ∙ ap₂ (λ (vs us : List Value). gate_values program.globals (record { values = vs }) a us)
          (values_stay env old ns globals (map (λ q. q.sort) program.globals) hg g) (values_stay env old ns inputs (map (λ q. q.sort) a.params) hi g);
    }

-- a guard's scope, also that of the updates
pub guard_sees : (old ns : List Node) (sc : Scope) (program : Program) (a : Action) (globals inputs chosen : List ℕ) (n : Named) → Kept program a
    → AreOf old globals (map (λ g. g.sort) program.globals) → AreOf old inputs (map (λ q. q.sort) a.params) → AreOf old chosen (map (λ c. c.sort) a.choices)
    → Grows old ns → IsNamed old ns a.outs globals inputs chosen n → Made sc program a a.choices globals inputs chosen n.zeros.items n.no
    → Sees ns sc (guard_scope program a) (λ env. guard_values program.globals (store_at env old globals) a (values_at env old inputs) (values_at env old chosen))
guard_sees old ns sc program a globals inputs chosen n k hg hi hc g is m =
    let zeros = n.zeros.items in
    let p = prepared old ns program a a.choices globals inputs chosen n hg hi hc g is in
    let l = listed ns sc program a a.choices globals inputs chosen zeros n.no p m in
    record {
      fits = scope_fits ns sc program a a.choices globals inputs chosen zeros n.no p m (guard_scope program a)
          (names_found ns program a a.choices globals inputs chosen zeros l) (olds_found ns program a a.choices globals inputs chosen zeros l k (λ name e. e));
      means = λ env f.
          scope_meant ns sc program a a.choices globals inputs chosen zeros n.no p m env f
          ∙ ap₂ (λ (vs us : List Value). guard_values program.globals (record { values = vs }) a us (values_at env ns chosen))
          (values_stay env old ns globals (map (λ q. q.sort) program.globals) hg g) (values_stay env old ns inputs (map (λ q. q.sort) a.params) hi g)
          ∙ ap (λ (ws : List Value). guard_values program.globals (store_at env old globals) a (values_at env old inputs) ws) (values_stay env old ns chosen (map (λ c. c.sort) a.choices) hc g);
    }

-- ---- the gate and the guard

module _ (old mid new : List Node) (sc : Scope) (program : Program) (a : Action) (k : Kept program a) (graph : IsGraph new) (g : Grows mid new) where
  -- an expression that has the sort of bools
  truth_is : (sorts : Sorts) (meaning : (ℕ → Value) → Meant) (e : Expr) (id : ℕ) → Sees mid sc sorts meaning → IsTyped sorts e → sort_of sorts e ≡ Some Truth → Means mid new sc e id
      → ((env : ℕ → Value) → Fits env new → value_at env new id ≡ value.Bool (is_true (value_of (meaning env) e))) × (sort_at new id ≡ Some Truth)
  truth_is sorts meaning e id sees typed sorted t =
      let s : sort_at new id ≡ Some Truth = t.sorted sorts sees.fits typed ∙ sorted in (
        λ env f.
            truth_value (value_at env new id) (nodes_have_their_sorts new graph env f id Truth s)
            ∙ ap (λ (v : Value). value.Bool (is_true v)) (t.is env f)
            ∙ ap (λ (c : Meant). value.Bool (is_true (value_of c e))) (sees.means env (g.fits env f)),
        s,
      )

  pub gate_is : (globals inputs : List ℕ) (id : ℕ) → Sees mid sc (gate_scope program a) (λ env. gate_values program.globals (store_at env old globals) a (values_at env old inputs))
      → Means mid new sc a.gate id → IsGate old new program a globals inputs id
  unfolding gate_holds
  gate_is globals inputs id sees t =
      let h = truth_is (gate_scope program a) (λ env. gate_values program.globals (store_at env old globals) a (values_at env old inputs)) a.gate id sees (gate_typed program a k) (gate_sort program a k) t in
      record { is = λ env f. h.0 env f; sort = h.1 }

  pub guard_is : (globals inputs chosen : List ℕ) (id : ℕ) → Sees mid sc (guard_scope program a) (λ env. guard_values program.globals (store_at env old globals) a (values_at env old inputs) (values_at env old chosen))
      → Means mid new sc a.guard id → IsGuard old new program a globals inputs chosen id
  guard_is globals inputs chosen id sees t =
      let h = truth_is (guard_scope program a) (λ env. guard_values program.globals (store_at env old globals) a (values_at env old inputs) (values_at env old chosen)) a.guard id sees (guard_typed program a k) (guard_sort program a k) t in
      record { is = λ env f. h.0 env f; sort = h.1 }

-- ---- the offers and the updates

module _ (old mid new : List Node) (sc : Scope) (program : Program) (a : Action) (globals inputs : List ℕ) (g : Grows mid new) where
  pub offers_are : (made : List ℕ) → Sees mid sc (gate_scope program a) (λ env. gate_values program.globals (store_at env old globals) a (values_at env old inputs))
      → AreOffered mid new sc (gate_scope program a) a.choices made → AreOffers old new program a globals inputs made
  offers_are made sees o = record {
    values = λ env f. o.values env f ∙ ap (λ (s : Meant). map (λ (c : Choice). value_of s c.offer) a.choices) (sees.means env (g.fits env f));
    sorts = o.are;
  }

  pub change_is : (chosen globals_then outs_then : List ℕ) (n : Named) → Sees mid sc (guard_scope program a) (λ env. guard_values program.globals (store_at env old globals) a (values_at env old inputs) (values_at env old chosen))
      → AreOf old globals (map (λ q. q.sort) program.globals) → Grows old mid → IsNamed old mid a.outs globals inputs chosen n
      → AreUpdated mid new sc program a (length a.updates) globals n.zeros.items globals_then outs_then → IsChange old new program a globals inputs chosen globals_then outs_then
  change_is chosen globals_then outs_then n sees hg before is u =
      let all : take (length a.updates) a.updates ≡ a.updates = take_all (length a.updates) a.updates (omega arith) in
      record {
        store = λ env f. ap (λ (vs : List Value). record { values = vs })
            (u.globals env f
            ∙ ap (λ (us : List Update). updated (global_names program.globals) (values_at env mid globals) (meant env mid sc) us) all
            ∙ ap₂ (λ (vs : List Value) (c : Meant). updated (global_names program.globals) vs c a.updates) (values_stay env old mid globals (map (λ q. q.sort) program.globals) hg before) (sees.means env (g.fits env f)));
        outs = λ env f.
            u.outs env f
            ∙ ap (λ (us : List Update). updated (param_names a.outs) (values_at env mid n.zeros.items) (meant env mid sc) us) all
            ∙ ap₂ (λ (vs : List Value) (c : Meant). updated (param_names a.outs) vs c a.updates) (is.zero_values env (g.fits env f)) (sees.means env (g.fits env f));
        global_sorts = u.global_sorts;
        out_sorts = u.out_sorts;
      }

-- ---- the terms of the names

pub named_is : (old one new : List Node) (outs : List Param) (globals inputs chosen : List ℕ) (n : Named) → n.values.items ≡ globals ++ (inputs ++ (chosen ++ n.zeros.items))
    → Built old one n.no (λ env. value.Bool false) (Some Truth) 0 → Grows one new → AreZeros one new outs n.zeros.items → IsNamed old new outs globals inputs chosen n
named_is old one new outs globals inputs chosen n e b h z = record {
  all = e;
  zeros_are = z.sorts;
  zero_values = z.values;
  no_sort = h.sorts n.no b.within ∙ b.sorted;
  no_value = λ env f. h.values env n.no b.within ∙ b.is env (h.fits env f);
  weighs = omega (arith, b.weighs, z.weighs);
}
