-- What is said of terms stays true in a graph that grows, of terms that were made in it and of those that they were made from.
use Rattle.std.specs.Prelude.{map, slice_get, IfSome}
use Rattle.std.proofs.Common.{◌≡◌, ◌∙◌, ℕ, zero, suc, ◌<◌, Bool, List, [], ◌∷◌, length, inl, inr, refl, sym, ap, ap₂, subst, arith, Option, Some, None}
use Rattle.std.proofs.lemmas.Bool.{cases_lt}
use Rattle.std.proofs.lemmas.Option.{IfSome_then}
use Rattle.std.proofs.Math.ListN.{get_or-eq_default}
use Rattle.civl_bits.specs.declared.value.Value.{Value}
use Rattle.civl_bits.specs.declared.value.Value.TheVariants as value
use Rattle.civl_tree.specs.declared.expr.Expr.{Expr}
use Rattle.civl_tree.specs.declared.expr.Sort.{Sort}
use Rattle.civl_tree.specs.declared.expr.Sort.TheVariants.{Bool as Truth}
use Rattle.civl_tree.specs.declared.action.Action.{Action}
use Rattle.civl_tree.specs.declared.program.Program.{Program}
use Rattle.civl_tree.specs.rules.Scopes.{Scope as Sorts}
use Rattle.civl_tree.specs.rules.Sorts.{sort_of}
use Rattle.civl_tree.proofs.Lists.{heads}
use Rattle.civl_firing.specs.values.Values.{is_true}
use Rattle.civl_firing.specs.declared.scope.Scope.{Scope as Meant}
use Rattle.civl_firing.specs.Eval.{value_of}
use Rattle.civl_firing.specs.Fired.{gate_holds, guard_holds, offers, store_after, outs_after}
use Rattle.civl_firing.specs.Truth.{place_of}
use Rattle.civl_terms.specs.declared.node.Node.{Node}
use Rattle.civl_terms.specs.Graphs.{value_at, sort_at, sorts, Fits}
use Rattle.civl_terms.specs.Building.{Grows}
use Rattle.civl_terms.proofs.Growing.{grows_trans, grows_same}
use Rattle.civl_terms.proofs.Nodes.{length-sorts}
use Rattle.civl_actions.specs.declared.made.Instance.{Instance}
use Rattle.civl_actions.specs.declared.scope.Scope.{Scope}
use Rattle.civl_actions.specs.Scopes.{names_in, meant, StandsAt, ScopeFits, AreOf, IsTyped, Means}
use Rattle.civl_actions.specs.Actions.{values_at, IsGate, IsGuard, AreOffers, IsChange, IsInstance}

-- ---- sorts and values

-- a node that has a sort is there
pub sorted_within : (ns : List Node) (i : ℕ) (s : Sort) → sort_at ns i ≡ Some s → i < length ns
sorted_within ns i s e = elim (cases_lt i (length ns)) [
  | inl l ↦ l
  | inr g ↦ absurd (none (sym (get_or-eq_default (sorts ns) None (omega (arith, g, length-sorts ns))) ∙ e))
]
  where
    none : None ≡ Some s → ⊥
    none q = absurd (cc)

pub sort_stays : (old new : List Node) (id : ℕ) (s : Sort) → sort_at old id ≡ Some s → Grows old new → sort_at new id ≡ Some s
sort_stays old new id s h g = g.sorts id (sorted_within old id s h) ∙ h

pub value_stays : (env : ℕ → Value) (old new : List Node) (id : ℕ) (s : Sort) → sort_at old id ≡ Some s → Grows old new → value_at env new id ≡ value_at env old id
value_stays env old new id s h g = g.values env id (sorted_within old id s h)

-- terms that have sorts are there
pub are_within : (ns : List Node) (ids : List ℕ) (ss : List Sort) → AreOf ns ids ss → (place id : ℕ) → slice_get ids place ≡ Some id → id < length ns
are_within ns [] ss h place id e = absurd (cc)
are_within ns (i ∷ ids) [] h place id e = absurd (cc)
are_within ns (i ∷ ids) (s ∷ ss) h zero id e =
    let q : i ≡ id = cc in
    subst (λ k. k < length ns) q (sorted_within ns i s (heads (sort_at ns i) (Some s) (map (sort_at ns) ids) (map (λ (t : Sort). Some t) ss) h).0)
are_within ns (i ∷ ids) (s ∷ ss) h (suc place) id e =
    are_within ns ids ss (heads (sort_at ns i) (Some s) (map (sort_at ns) ids) (map (λ (t : Sort). Some t) ss) h).1 place id e

pub map_sorts : (ns ms : List Node) (ids : List ℕ) → ((place id : ℕ) → slice_get ids place ≡ Some id → id < length ns) → Grows ns ms → map (sort_at ms) ids ≡ map (sort_at ns) ids
map_sorts ns ms [] h g = refl
map_sorts ns ms (i ∷ ids) h g = ap₂ (λ (v : Option Sort) (vs : List (Option Sort)). v ∷ vs) (g.sorts i (h zero i refl)) (map_sorts ns ms ids (λ k j e. h (suc k) j e) g)

pub are_stay : (old new : List Node) (ids : List ℕ) (ss : List Sort) → AreOf old ids ss → Grows old new → AreOf new ids ss
are_stay old new ids ss h g = map_sorts old new ids (are_within old ids ss h) g ∙ h

pub map_values : (env : ℕ → Value) (ns ms : List Node) (ids : List ℕ) → ((place id : ℕ) → slice_get ids place ≡ Some id → id < length ns) → Grows ns ms → map (value_at env ms) ids ≡ map (value_at env ns) ids
map_values env ns ms [] h g = refl
map_values env ns ms (i ∷ ids) h g = ap₂ (λ (v : Value) (vs : List Value). v ∷ vs) (g.values env i (h zero i refl)) (map_values env ns ms ids (λ k j e. h (suc k) j e) g)

pub values_stay : (env : ℕ → Value) (old new : List Node) (ids : List ℕ) (ss : List Sort) → AreOf old ids ss → Grows old new → values_at env new ids ≡ values_at env old ids
values_stay env old new ids ss h g = map_values env old new ids (are_within old ids ss h) g

-- terms for an action's parameters, and for its choices
pub inputs_stay : (old new : List Node) (program : Program) (action : ℕ) (ids : List ℕ)
    → IfSome (slice_get program.actions action) (λ a. AreOf old ids (map (λ p. p.sort) a.params)) → Grows old new → IfSome (slice_get program.actions action) (λ a. AreOf new ids (map (λ p. p.sort) a.params))
inputs_stay old new program action ids h g = IfSome_then (slice_get program.actions action) h (λ a k. are_stay old new ids (map (λ p. p.sort) a.params) k g)

pub choices_stay : (old new : List Node) (program : Program) (action : ℕ) (ids : List ℕ)
    → IfSome (slice_get program.actions action) (λ a. AreOf old ids (map (λ c. c.sort) a.choices)) → Grows old new → IfSome (slice_get program.actions action) (λ a. AreOf new ids (map (λ c. c.sort) a.choices))
choices_stay old new program action ids h g = IfSome_then (slice_get program.actions action) h (λ a k. are_stay old new ids (map (λ c. c.sort) a.choices) k g)

-- with these, what a call on an action asks for is found after calls before it
pub ruleset staying = (grows_trans, grows_same, are_stay, inputs_stay, choices_stay)

-- ---- scopes and the terms of expressions

pub meant_stays : (env : ℕ → Value) (ns ms : List Node) (scope : Scope) (sorts : Sorts) → ScopeFits ns scope sorts → Grows ns ms → meant env ms scope ≡ meant env ns scope
meant_stays env ns ms scope sorts fits g =
    let v = map_values env ns ms scope.values.now fits.values g in
    let o = map_values env ns ms scope.old.now fits.olds_there g in
    let d : is_true (value_at env ms scope.done) ≡ is_true (value_at env ns scope.done) = ap is_true (g.values env scope.done (sorted_within ns scope.done Truth fits.done)) in
    let e : is_true (value_at env ms scope.old_done) ≡ is_true (value_at env ns scope.old_done) = ap is_true (g.values env scope.old_done (sorted_within ns scope.old_done Truth fits.old_done)) in
    ap (λ (vs : List Value). record { names = names_in scope; values = vs; old = map (value_at env ms) scope.old.now; done = is_true (value_at env ms scope.done); old_done = is_true (value_at env ms scope.old_done) }) v
    ∙ ap (λ (vs : List Value). record { names = names_in scope; values = map (value_at env ns) scope.values.now; old = vs; done = is_true (value_at env ms scope.done); old_done = is_true (value_at env ms scope.old_done) }) o
    ∙ ap (λ (b : Bool). record { names = names_in scope; values = map (value_at env ns) scope.values.now; old = map (value_at env ns) scope.old.now; done = b; old_done = is_true (value_at env ms scope.old_done) }) d
    ∙ ap (λ (b : Bool). record { names = names_in scope; values = map (value_at env ns) scope.values.now; old = map (value_at env ns) scope.old.now; done = is_true (value_at env ns scope.done); old_done = b }) e

stands_stay : (ns ms : List Node) (ids : List ℕ) (place : ℕ) (s : Sort) → Grows ns ms → StandsAt ns ids place s → StandsAt ms ids place s
stands_stay ns ms ids place s g h = (h.0, h.1, g.sorts h.0 (sorted_within ns h.0 s h.2) ∙ h.2)

pub fits_stay : (ns ms : List Node) (scope : Scope) (sorts : Sorts) → Grows ns ms → ScopeFits ns scope sorts → ScopeFits ms scope sorts
fits_stay ns ms scope sorts g f = record {
  values = λ place id e. omega (arith, f.values place id e, g.longer);
  olds_there = λ place id e. omega (arith, f.olds_there place id e, g.longer);
  names = λ name s e. stands_stay ns ms scope.values.now (place_of (names_in scope) name) s g (f.names name s e);
  olds = λ name s e. stands_stay ns ms scope.old.now (place_of (names_in scope) name) s g (f.olds name s e);
  done = g.sorts scope.done (sorted_within ns scope.done Truth f.done) ∙ f.done;
  old_done = g.sorts scope.old_done (sorted_within ns scope.old_done Truth f.old_done) ∙ f.old_done;
}

-- what `Means` says of a term but for the weight
pub record Stands (old now : List Node) (scope : Scope) (e : Expr) (id : ℕ) : Type 0 where
  pub within : id < length now
  pub is : (env : ℕ → Value) → Fits env now → value_at env now id ≡ value_of (meant env old scope) e
  pub sorted : (sorts : Sorts) → ScopeFits old scope sorts → IsTyped sorts e → sort_at now id ≡ sort_of sorts e

pub term_stays : (old now later : List Node) (scope : Scope) (e : Expr) (id : ℕ) → Means old now scope e id → Grows now later → Stands old later scope e id
term_stays old now later scope e id m g = record {
  within = omega (arith, m.within, g.longer);
  is = λ env f. g.values env id m.within ∙ m.is env (g.fits env f);
  sorted = λ sorts f t. g.sorts id m.within ∙ m.sorted sorts f t;
}

-- made in a later graph, where the scope was there before
pub term_since : (old now later : List Node) (scope : Scope) (sorts : Sorts) (e : Expr) (id : ℕ) → ScopeFits old scope sorts → Grows old now → Means now later scope e id → Stands old later scope e id
term_since old now later scope sorts e id f g m = record {
  within = m.within;
  is = λ env h. m.is env h ∙ ap (λ (s : Meant). value_of s e) (meant_stays env old now scope sorts f g);
  sorted = λ others k t. m.sorted others (fits_stay old now scope others g k) t;
}

-- ---- in a later graph the terms of an action are its terms

pub gate_stays : (old now later : List Node) (program : Program) (a : Action) (globals inputs : List ℕ) (id : ℕ)
    → IsGate old now program a globals inputs id → Grows now later → IsGate old later program a globals inputs id
gate_stays old now later program a globals inputs id h g = record {
  is = λ env f. value_stays env now later id Truth h.sort g ∙ h.is env (g.fits env f);
  sort = sort_stays now later id Truth h.sort g;
}

pub guard_stays : (old now later : List Node) (program : Program) (a : Action) (globals inputs choices : List ℕ) (id : ℕ)
    → IsGuard old now program a globals inputs choices id → Grows now later → IsGuard old later program a globals inputs choices id
guard_stays old now later program a globals inputs choices id h g = record {
  is = λ env f. value_stays env now later id Truth h.sort g ∙ h.is env (g.fits env f);
  sort = sort_stays now later id Truth h.sort g;
}

pub offers_stay : (old now later : List Node) (program : Program) (a : Action) (globals inputs ids : List ℕ)
    → AreOffers old now program a globals inputs ids → Grows now later → AreOffers old later program a globals inputs ids
offers_stay old now later program a globals inputs ids h g = record {
  values = λ env f. values_stay env now later ids (map (λ c. c.sort) a.choices) h.sorts g ∙ h.values env (g.fits env f);
  sorts = are_stay now later ids (map (λ c. c.sort) a.choices) h.sorts g;
}

pub change_stays : (old now later : List Node) (program : Program) (a : Action) (globals inputs choices globals_then outs_then : List ℕ)
    → IsChange old now program a globals inputs choices globals_then outs_then → Grows now later → IsChange old later program a globals inputs choices globals_then outs_then
change_stays old now later program a globals inputs choices globals_then outs_then h g = record {
  store = λ env f. ap (λ (vs : List Value). record { values = vs }) (values_stay env now later globals_then (map (λ q. q.sort) program.globals) h.global_sorts g) ∙ h.store env (g.fits env f);
  outs = λ env f. values_stay env now later outs_then (map (λ q. q.sort) a.outs) h.out_sorts g ∙ h.outs env (g.fits env f);
  global_sorts = are_stay now later globals_then (map (λ q. q.sort) program.globals) h.global_sorts g;
  out_sorts = are_stay now later outs_then (map (λ q. q.sort) a.outs) h.out_sorts g;
}

pub instance_stays : (old now later : List Node) (program : Program) (a : Action) (globals inputs choices : List ℕ) (made : Instance)
    → IsInstance old now program a globals inputs choices made → Grows now later → IsInstance old later program a globals inputs choices made
instance_stays old now later program a globals inputs choices made h g = record {
  gate = gate_stays old now later program a globals inputs made.gate h.gate g;
  guard = guard_stays old now later program a globals inputs choices made.guard h.guard g;
  change = change_stays old now later program a globals inputs choices made.globals made.outs h.change g;
}

-- ---- what is made from terms of an earlier graph is made from them there

module _ (old now new : List Node) (program : Program) (a : Action) (globals inputs : List ℕ)
    (hg : AreOf old globals (map (λ g. g.sort) program.globals)) (hi : AreOf old inputs (map (λ p. p.sort) a.params)) (grown : Grows old now) where
  given : {B : Type 0} (env : ℕ → Value) (f : List Value → List Value → B) → f (values_at env now globals) (values_at env now inputs) ≡ f (values_at env old globals) (values_at env old inputs)
  given env f = ap₂ f (values_stay env old now globals (map (λ g. g.sort) program.globals) hg grown) (values_stay env old now inputs (map (λ p. p.sort) a.params) hi grown)

  pub gate_since : (id : ℕ) → IsGate now new program a globals inputs id → IsGate old new program a globals inputs id
  gate_since id h = record {
    is = λ env f. h.is env f ∙ given env (λ (vs us : List Value). value.Bool (gate_holds program.globals (record { values = vs }) a us));
    sort = h.sort;
  }

  pub offers_since : (ids : List ℕ) → AreOffers now new program a globals inputs ids → AreOffers old new program a globals inputs ids
  offers_since ids h = record {
    values = λ env f. h.values env f ∙ given env (λ (vs us : List Value). offers program.globals (record { values = vs }) a us);
    sorts = h.sorts;
  }

module _ (old now new : List Node) (program : Program) (a : Action) (globals inputs choices : List ℕ)
    (hg : AreOf old globals (map (λ g. g.sort) program.globals)) (hi : AreOf old inputs (map (λ p. p.sort) a.params)) (hc : AreOf old choices (map (λ c. c.sort) a.choices)) (grown : Grows old now) where
  chosen : {B : Type 0} (env : ℕ → Value) (f : List Value → List Value → List Value → B)
      → f (values_at env now globals) (values_at env now inputs) (values_at env now choices) ≡ f (values_at env old globals) (values_at env old inputs) (values_at env old choices)
  chosen env f =
      given old now new program a globals inputs hg hi grown env (λ (vs us : List Value). f vs us (values_at env now choices))
      ∙ ap (f (values_at env old globals) (values_at env old inputs)) (values_stay env old now choices (map (λ c. c.sort) a.choices) hc grown)

  pub guard_since : (id : ℕ) → IsGuard now new program a globals inputs choices id → IsGuard old new program a globals inputs choices id
  guard_since id h = record {
    is = λ env f. h.is env f ∙ chosen env (λ (vs us ws : List Value). value.Bool (guard_holds program.globals (record { values = vs }) a us ws));
    sort = h.sort;
  }

  pub change_since : (globals_then outs_then : List ℕ) → IsChange now new program a globals inputs choices globals_then outs_then → IsChange old new program a globals inputs choices globals_then outs_then
  change_since globals_then outs_then h = record {
    store = λ env f. h.store env f ∙ chosen env (λ (vs us ws : List Value). store_after program.globals (record { values = vs }) a us ws);
    outs = λ env f. h.outs env f ∙ chosen env (λ (vs us ws : List Value). outs_after program.globals (record { values = vs }) a us ws);
    global_sorts = h.global_sorts;
    out_sorts = h.out_sorts;
  }
