-- What an action gives has its sorts.
use Rattle.std.proofs.Common.{◌≡◌, refl, ℕ, Bool, true, false, not, List, [], ◌∷◌, ◌++◌, map, sym, ap, ◌∙◌, subst, Option, Some, None, slice_get, slice_set}
use Rattle.std.specs.Prelude.{if◌then◌else◌}
use Rattle.std.specs.List.{list_any}
use Rattle.std.proofs.lemmas.Bool.{not-false, or_parts}
use Rattle.std.proofs.lemmas.List.Folds.{list_any-append}
use Rattle.civl_bits.specs.declared.value.Value.{Value}
use Rattle.civl_tree.specs.declared.name.Name.{Name}
use Rattle.civl_tree.specs.declared.expr.Expr.{Expr}
use Rattle.civl_tree.specs.declared.expr.Sort.{Sort}
use Rattle.civl_tree.specs.declared.expr.Sort.TheVariants.{Bool as Truth}
use Rattle.civl_tree.specs.declared.action.Action.{Action}
use Rattle.civl_tree.specs.declared.action.Choice.{Choice}
use Rattle.civl_tree.specs.declared.action.Param.{Param}
use Rattle.civl_tree.specs.declared.action.Update.{Update}
use Rattle.civl_tree.specs.declared.program.Global.{Global}
use Rattle.civl_tree.specs.declared.program.Program.{Program}
use Rattle.civl_tree.specs.rules.Scopes.{Binding, Scope as Sorts, sort_in, bind_globals, bind_params, bind_choices, gate_scope, guard_scope}
use Rattle.civl_tree.specs.rules.Sorts.{sort_of}
use Rattle.civl_tree.specs.rules.Exprs.{widths_fit, indices_fit}
use Rattle.civl_tree.specs.rules.Uses.{Use, Only, need_of, serves, target_use, truth_use, param_sorts, update_sort, action_uses}
use Rattle.civl_tree.specs.rules.Width.{any_width, param_width, choice_width}
use Rattle.civl_tree.specs.rules.Index.{any_index, sort_index}
use Rattle.civl_tree.specs.rules.Sorted.{any_missorted}
use Rattle.civl_tree.specs.rules.Rules.{Keeps}
use Rattle.civl_tree.specs.rules.Typing.{typing_rules, width_rule, sort_rule, index_rule}
use Rattle.civl_tree.proofs.Kept.{action_kept, width_among, sort_among, index_among}
use Rattle.civl_firing.specs.values.Values.{HasSort, HaveSorts}
use Rattle.civl_firing.specs.declared.store.Store.{Store}
use Rattle.civl_firing.specs.declared.firing.Fired.TheVariants.{GateFalse, Moved}
use Rattle.civl_firing.specs.declared.scope.Scope.{Scope}
use Rattle.civl_firing.specs.Truth.{place_of}
use Rattle.civl_firing.specs.Eval.{value_of}
use Rattle.civl_firing.specs.Stores.{IsStore}
use Rattle.civl_firing.specs.Sorts.{IsSorted}
use Rattle.civl_firing.specs.Scope.{zeros_of_params, gate_values, guard_values}
use Rattle.civl_firing.specs.Fired.{gate_holds, guard_holds, offers, updated, store_after, outs_after, fires, fired_by, fired}
use Rattle.civl_firing.proofs.Having.{no_sorts, more_sorts}
use Rattle.civl_firing.proofs.Soundness.{values_have_their_sorts}
use Rattle.civl_firing.proofs.Serving.{served_only}
use Rattle.civl_soundness.specs.Scope.{GateIsSorted, GuardIsSorted, BodyIsSorted, OffersAreSorted, GateIsBool, GuardIsBool}
use Rattle.civl_meaning.specs.Config.{choice_sorts}
use Rattle.civl_meaning.proofs.Bindings.{names_of, sorts_of, in_front, in_back, not_in_first, no_global, names_bound, sorts_bound}
use Rattle.civl_soundness.specs.Fired.{UpdatesKeepSorts, FiredIsSorted}
use Rattle.civl_soundness.proofs.Sorted.{set_fits}
use Rattle.civl_soundness.proofs.Scopes.{action_declares, results_zero, frame_sorted, gate_sorted, guard_sorted}

-- an expression at a place that needs this sort, if any
use_fits : (scope : Scope) (sorts : Sorts) → IsSorted scope sorts → (e : Expr) (wanted : Option Sort) → not (serves (sort_of sorts e) (need_of wanted)) ≡ false → not (widths_fit sorts e) ≡ false → not (indices_fit e) ≡ false → (s : Sort) → wanted ≡ Some s → HasSort (value_of scope e) s
use_fits scope sorts fit e wanted m w i s q =
    let serve : serves (sort_of sorts e) (Only s) ≡ true = ap (λ (o : Option Sort). serves (sort_of sorts e) (need_of o)) (sym q) ∙ not-false (serves (sort_of sorts e) (need_of wanted)) m in
    values_have_their_sorts scope sorts fit e s (served_only (sort_of sorts e) s serve, not-false (widths_fit sorts e) w, not-false (indices_fit e) i)

-- the first of several
pub first_fits : (scope : Scope) (sorts : Sorts) → IsSorted scope sorts → (e : Expr) (wanted : Option Sort) (others : List Use) → any_missorted (target_use sorts e wanted ∷ others) ≡ false → any_width (target_use sorts e wanted ∷ others) ≡ false → any_index (target_use sorts e wanted ∷ others) ≡ false →
    (s : Sort) → wanted ≡ Some s → HasSort (value_of scope e) s
first_fits scope sorts fit e wanted others m w i s q =
    use_fits scope sorts fit e wanted (or_parts (not (serves (sort_of sorts e) (need_of wanted))) (any_missorted others) m).0 (or_parts (not (widths_fit sorts e)) (any_width others) w).0 (or_parts (not (indices_fit e)) (any_index others) i).0 s q

-- ---- offers

abbrev offered : Sorts → List Choice → List Use
offered sorts choices = map (λ c. target_use sorts c.offer (Some c.sort)) choices

offers_fit : (scope : Scope) (sorts : Sorts) → IsSorted scope sorts → (choices : List Choice) → any_missorted (offered sorts choices) ≡ false → any_width (offered sorts choices) ≡ false → any_index (offered sorts choices) ≡ false →
    HaveSorts (map (λ c. value_of scope c.offer) choices) (map (λ c. c.sort) choices)
offers_fit scope sorts fit [] m w i = no_sorts
offers_fit scope sorts fit (c ∷ cs) m w i =
    let rest = offered sorts cs in
    more_sorts (value_of scope c.offer) c.sort (map (λ d. value_of scope d.offer) cs) (map (λ d. d.sort) cs) (first_fits scope sorts fit c.offer (Some c.sort) rest m w i c.sort refl)
    (offers_fit scope sorts fit cs (or_parts _ (any_missorted rest) m).1 (or_parts _ (any_width rest) w).1 (or_parts _ (any_index rest) i).1)

-- ---- updates

abbrev updates : Sorts → (Name → Option Sort) → List Update → List Use
updates sorts wanted us = map (λ u. target_use sorts u.expr (wanted u.target)) us

updates_fit : (scope : Scope) (sorts : Sorts) → IsSorted scope sorts → (wanted : Name → Option Sort) (bs : List Binding) → ((name : Name) (s : Sort) → sort_in bs name ≡ Some s → wanted name ≡ Some s) → (us : List Update) →
    any_missorted (updates sorts wanted us) ≡ false → any_width (updates sorts wanted us) ≡ false → any_index (updates sorts wanted us) ≡ false →
    (values : List Value) → HaveSorts values (sorts_of bs) → HaveSorts (updated (names_of bs) values scope us) (sorts_of bs)
updates_fit scope sorts fit wanted bs known [] m w i values h = h
updates_fit scope sorts fit wanted bs known (u ∷ us) m w i values h =
    let rest = updates sorts wanted us in
    let new = set_fits bs values u.target (value_of scope u.expr) h (λ s e. first_fits scope sorts fit u.expr (wanted u.target) rest m w i s (known u.target s e)) in
    updates_fit scope sorts fit wanted bs known us (or_parts _ (any_missorted rest) m).1 (or_parts _ (any_width rest) w).1 (or_parts _ (any_index rest) i).1
    (slice_set values (place_of (names_of bs) u.target) (value_of scope u.expr)) new

-- ---- the expressions of an action

-- none of them, of these in the first, the two behind it, and the last
record Parts (p : Use → Bool) (xs : List Use) (x y : Use) (ys : List Use) : Type 0 where
  offers : list_any p xs ≡ false
  gate : p x ≡ false
  guard : p y ≡ false
  updates : list_any p ys ≡ false

parts : (p : Use → Bool) (xs : List Use) (x y : Use) (ys : List Use) → list_any p (xs ++ x ∷ y ∷ ys) ≡ false → Parts p xs x y ys
parts p xs x y ys h =
    let a = or_parts (list_any p xs) (list_any p (x ∷ y ∷ ys)) (sym (list_any-append p xs (x ∷ y ∷ ys)) ∙ h) in
    let b = or_parts (p x) (list_any p (y ∷ ys)) a.1 in
    let c = or_parts (p y) (list_any p ys) b.1 in
    record { offers = a.0; gate = b.0; guard = c.0; updates = c.1 }

module _ (program : Program) (none : Keeps typing_rules program) (place : ℕ) (action : Action) (at : slice_get program.actions place ≡ Some action) where
  abbrev InAction : (Use → Bool) → Type 0
  InAction p =
      Parts p (offered (gate_scope program action) action.choices) (truth_use (gate_scope program action) action.gate) (truth_use (guard_scope program action) action.guard)
      (updates (guard_scope program action) (update_sort program action) action.updates)

  all_sorted : InAction (λ (u : Use). not (serves (sort_of u.scope u.expression) u.need))
  all_sorted = parts _ _ _ _ _ (action_kept typing_rules program none sort_rule sort_among place action at)

  all_narrow : InAction (λ (u : Use). not (widths_fit u.scope u.expression))
  all_narrow =
      parts _ _ _ _ _
      (or_parts (list_any choice_width action.choices) (any_width (action_uses program action)) (or_parts (list_any (param_width program) (action.params ++ action.outs)) _ (action_kept typing_rules program none width_rule width_among place action at)).1).1

  all_low : InAction (λ (u : Use). not (indices_fit u.expression))
  all_low =
      parts _ _ _ _ _
      (or_parts (list_any (λ c. sort_index c.sort) action.choices) (any_index (action_uses program action)) (or_parts (list_any (λ p. sort_index p.sort) (action.params ++ action.outs)) _ (action_kept typing_rules program none index_rule index_among place action at)).1).1

  module _ (store : Store) (inputs : List Value) (hs : IsStore program.globals store) (hi : HaveSorts inputs (param_sorts action.params)) where
    at_gate : IsSorted (gate_values program.globals store action inputs) (gate_scope program action)
    at_gate = gate_sorted program none place action at store inputs hs hi

    gate_fits : HasSort (value_of (gate_values program.globals store action inputs) action.gate) Truth
    gate_fits = use_fits (gate_values program.globals store action inputs) (gate_scope program action) at_gate action.gate (Some Truth) all_sorted.gate all_narrow.gate all_low.gate Truth refl

    all_offers_fit : HaveSorts (offers program.globals store action inputs) (choice_sorts action)
    all_offers_fit = offers_fit (gate_values program.globals store action inputs) (gate_scope program action) at_gate action.choices all_sorted.offers all_narrow.offers all_low.offers

  module _ (store : Store) (inputs chosen : List Value) (hs : IsStore program.globals store) (hi : HaveSorts inputs (param_sorts action.params)) (hc : HaveSorts chosen (map (λ c. c.sort) action.choices)) where
    abbrev scope : Scope
    scope = guard_values program.globals store action inputs chosen

    fit : IsSorted scope (guard_scope program action)
    fit = guard_sorted program none place action at store inputs chosen hs hi hc

    guard_fits : HasSort (value_of scope action.guard) Truth
    guard_fits = use_fits scope (guard_scope program action) fit action.guard (Some Truth) all_sorted.guard all_narrow.guard all_low.guard Truth refl

    store_fits : IsStore program.globals (store_after program.globals store action inputs chosen)
    store_fits =
        let bs = bind_globals program.globals in
        let names = names_bound (λ (g : Global). g.name) (λ (g : Global). g.sort) program.globals in
        let sorts = sorts_bound (λ (g : Global). g.name) (λ (g : Global). g.sort) program.globals in
        let known = λ (name : Name) (s : Sort) (e : sort_in bs name ≡ Some s). in_front bs (bind_params action.outs) name s e in
        let h = updates_fit scope (guard_scope program action) fit (update_sort program action) bs known action.updates all_sorted.updates all_narrow.updates all_low.updates store.values (subst (HaveSorts store.values) (sym sorts) hs) in
        subst (λ (ns : List Name). HaveSorts (updated ns store.values scope action.updates) (map (λ g. g.sort) program.globals)) names (subst (HaveSorts (updated (names_of bs) store.values scope action.updates)) sorts h)

    outs_fit : HaveSorts (outs_after program.globals store action inputs chosen) (param_sorts action.outs)
    outs_fit =
        let globals = bind_globals program.globals in
        let params = bind_params action.params in
        let bs = bind_params action.outs in
        let choices = bind_choices action.choices in
        let zeros = zeros_of_params action.outs in
        let names = names_bound (λ (p : Param). p.name) (λ (p : Param). p.sort) action.outs in
        let sorts = sorts_bound (λ (p : Param). p.name) (λ (p : Param). p.sort) action.outs in
        let declares = action_declares program none place action at in
        let among = λ (name : Name) (s : Sort) (e : sort_in bs name ≡ Some s). in_back params (bs ++ choices) name (not_in_first params (bs ++ choices) name s declares.own (in_front bs choices name s e)) ∙ in_front bs choices name s e in
        let known = λ (name : Name) (s : Sort) (e : sort_in bs name ≡ Some s). in_back globals bs name (no_global globals (params ++ (bs ++ choices)) name s declares (among name s e)) ∙ e in
        let h = updates_fit scope (guard_scope program action) fit (update_sort program action) bs known action.updates all_sorted.updates all_narrow.updates all_low.updates zeros (subst (HaveSorts zeros) (sym sorts) (results_zero program none place action at)) in
        subst (λ (ns : List Name). HaveSorts (updated ns zeros scope action.updates) (param_sorts action.outs)) names (subst (HaveSorts (updated (names_of bs) zeros scope action.updates)) sorts h)

-- ---- the laws

pub gate_is_sorted : GateIsSorted
gate_is_sorted program action store inputs g = at_gate program g.rules g.place action g.there store inputs g.store_fits g.inputs_fit

pub guard_is_sorted : GuardIsSorted
guard_is_sorted program action store inputs chosen g h = fit program g.rules g.place action g.there store inputs chosen g.store_fits g.inputs_fit h

pub body_is_sorted : BodyIsSorted
body_is_sorted program place proc locals none at h = frame_sorted program none place proc at locals h

pub offers_are_sorted : OffersAreSorted
offers_are_sorted program action store inputs g = all_offers_fit program g.rules g.place action g.there store inputs g.store_fits g.inputs_fit

pub gate_is_bool : GateIsBool
gate_is_bool program action store inputs g = gate_fits program g.rules g.place action g.there store inputs g.store_fits g.inputs_fit

pub guard_is_bool : GuardIsBool
guard_is_bool program action store inputs chosen g h = guard_fits program g.rules g.place action g.there store inputs chosen g.store_fits g.inputs_fit h

pub updates_keep_sorts : UpdatesKeepSorts
updates_keep_sorts program action store inputs chosen g h =
    (store_fits program g.rules g.place action g.there store inputs chosen g.store_fits g.inputs_fit h, outs_fit program g.rules g.place action g.there store inputs chosen g.store_fits g.inputs_fit h)

pub fired_is_sorted : FiredIsSorted
unfolding fired fires
fired_is_sorted program action store after inputs chosen outs g h e =
    by_gate (gate_holds program.globals store action inputs) (guard_holds program.globals store action inputs chosen) e
  where
    s : Store
    s = store_after program.globals store action inputs chosen

    o : List Value
    o = outs_after program.globals store action inputs chosen

    by_gate : (a b : Bool) → (if a then fired_by (if b then Some (s, o) else None) else GateFalse) ≡ Moved after outs → IsStore program.globals after × HaveSorts outs (param_sorts action.outs)
    by_gate false b q = absurd (cc)
    by_gate true false q = absurd (cc)
    by_gate true true q =
        let first : s ≡ after = cc in
        let second : o ≡ outs = cc in
        let k = updates_keep_sorts program action store inputs chosen g h in
        (subst (IsStore program.globals) first k.0, subst (λ (vs : List Value). HaveSorts vs (param_sorts action.outs)) second k.1)
