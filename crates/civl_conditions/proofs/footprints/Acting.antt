-- An action does the same in two stores that agree on the globals that it uses.
use Rattle.std.proofs.Common.{◌≡◌, ℕ, zero, suc, ◌+◌, Bool, true, false, cond, ◌||◌, List, [], ◌∷◌, ◌++◌, find, Some, None, refl, sym, ap, ◌∙◌, add-one}
use Rattle.std.specs.Prelude.{slice_index_or, slice_set, map, if◌then◌else◌}
use Rattle.std.specs.List.{list_any}
use Rattle.std.specs.Str.{bytes_eq}
use Rattle.std.proofs.lemmas.Bool.{or_parts, not-false, true≢false}
use Rattle.civl_bits.specs.declared.value.Value.{Value}
use Rattle.civl_firing.specs.values.Values.{is_true}
use Rattle.civl_firing.specs.values.Operators.{nothing}
use Rattle.civl_tree.specs.declared.name.Name.{Name}
use Rattle.civl_tree.specs.declared.action.Action.{Action}
use Rattle.civl_tree.specs.declared.action.Choice.{Choice}
use Rattle.civl_tree.specs.declared.action.Update.{Update}
use Rattle.civl_tree.specs.declared.program.Global.{Global}
use Rattle.civl_tree.specs.rules.Names.{same_name, global_names, param_names}
use Rattle.civl_tree.proofs.Naming.{swapped}
use Rattle.civl_firing.specs.declared.store.Store.{Store}
use Rattle.civl_firing.specs.declared.scope.Scope.{Scope}
use Rattle.civl_firing.specs.Truth.{place_of}
use Rattle.civl_firing.specs.Eval.{look, value_of}
use Rattle.civl_firing.specs.Scope.{present_values, gate_values, guard_values, choice_names, zeros_of_params}
use Rattle.civl_firing.specs.Fired.{gate_holds, guard_holds, offers, updated, store_after, outs_after, fires}
use Rattle.civl_layers.specs.Names.{uses}
use Rattle.civl_conditions.specs.footprints.Agreement.{AgreeBut, AgreeOn, StoresAgree, fails_test, names_other, action_uses}
use Rattle.civl_conditions.specs.footprints.Laws.{ActsAlike, FireAlike}
use Rattle.civl_conditions.proofs.footprints.Seeing.{one_value_in}

next_look : (v : Value) (vs : List Value) (k : ℕ) → slice_index_or (v ∷ vs) (k + 1) nothing ≡ slice_index_or vs k nothing
next_look v vs k = ap (λ (i : ℕ). slice_index_or (v ∷ vs) i nothing) (add-one k)

module _ (test : Global → Bool) where
  -- what a name stands for, by whether it is the first global's
  pub names_first : (g : Global) (gs : List Global) (n : Name) (same : Bool) → bytes_eq g.name.bytes n.bytes ≡ same →
      names_other test (g ∷ gs) n ≡ fails_test test (cond same (Some g) (find (λ h. same_name n h.name) gs))
  names_first g gs n same e = ap (λ (b : Bool). fails_test test (cond b (Some g) (find (λ h. same_name n h.name) gs))) (swapped n.bytes g.name.bytes ∙ e)

  pub look_agrees : (gs : List Global) (vs ws : List Value) (ns : List Name) (xs : List Value) (n : Name) → AgreeOn test gs vs ws → names_other test gs n ≡ false →
      look (global_names gs ++ ns) (vs ++ xs) n ≡ look (global_names gs ++ ns) (ws ++ xs) n
  look_agrees [] [] [] ns xs n a f = refl
  look_agrees (g ∷ gs) (v ∷ vs) (w ∷ ws) ns xs n a f = go (bytes_eq g.name.bytes n.bytes) refl (look_agrees gs vs ws ns xs n a.1)
    where
      go : (same : Bool) → bytes_eq g.name.bytes n.bytes ≡ same → (names_other test gs n ≡ false → look (global_names gs ++ ns) (vs ++ xs) n ≡ look (global_names gs ++ ns) (ws ++ xs) n)
          → slice_index_or (v ∷ (vs ++ xs)) (if bytes_eq g.name.bytes n.bytes then 0 else place_of (global_names gs ++ ns) n + 1) nothing ≡ slice_index_or (w ∷ (ws ++ xs)) (if bytes_eq g.name.bytes n.bytes then 0 else place_of (global_names gs ++ ns) n + 1) nothing
      go true e behind =
          ap (λ (b : Bool). slice_index_or (v ∷ (vs ++ xs)) (if b then 0 else place_of (global_names gs ++ ns) n + 1) nothing) e
          ∙ a.0 (not-false (test g) (sym (names_first g gs n true e) ∙ f))
          ∙ sym (ap (λ (b : Bool). slice_index_or (w ∷ (ws ++ xs)) (if b then 0 else place_of (global_names gs ++ ns) n + 1) nothing) e)
      go false e behind =
          ap (λ (b : Bool). slice_index_or (v ∷ (vs ++ xs)) (if b then 0 else place_of (global_names gs ++ ns) n + 1) nothing) e
          ∙ next_look v (vs ++ xs) (place_of (global_names gs ++ ns) n)
          ∙ behind (sym (names_first g gs n false e) ∙ f)
          ∙ sym (next_look w (ws ++ xs) (place_of (global_names gs ++ ns) n))
          ∙ sym (ap (λ (b : Bool). slice_index_or (w ∷ (ws ++ xs)) (if b then 0 else place_of (global_names gs ++ ns) n + 1) nothing) e)
  look_agrees _ _ _ ns xs n a f = absurd a

  pub present_agree : (gs : List Global) (vs ws : List Value) (ns : List Name) (xs : List Value) → AgreeOn test gs vs ws →
      AgreeBut (names_other test gs) (present_values (global_names gs ++ ns) (vs ++ xs)) (present_values (global_names gs ++ ns) (ws ++ xs))
  present_agree gs vs ws ns xs a = record {
    values = λ n f. look_agrees gs vs ws ns xs n a f;
    old = λ n f. look_agrees gs vs ws ns xs n a f;
    done = refl;
    old_done = refl;
  }

  -- ---- updates

  pub set_agrees : (gs : List Global) (vs ws : List Value) (i : ℕ) (x y : Value) → x ≡ y → AgreeOn test gs vs ws → AgreeOn test gs (slice_set vs i x) (slice_set ws i y)
  set_agrees [] [] [] i x y e a = tt
  set_agrees (g ∷ gs) (v ∷ vs) (w ∷ ws) zero x y e a = (λ f. e, a.1)
  set_agrees (g ∷ gs) (v ∷ vs) (w ∷ ws) (suc i) x y e a = (a.0, set_agrees gs vs ws i x y e a.1)
  set_agrees _ _ _ i x y e a = absurd a

  module _ (gs : List Global) (s t : Scope) (agree : AgreeBut (names_other test gs) s t) where
    abbrev Unused : List Update → Type 0
    Unused us = list_any (λ u. names_other test gs u.target || uses (names_other test gs) u.expr) us ≡ false

    first_unused : (u : Update) (us : List Update) → Unused (u ∷ us) → (value_of s u.expr ≡ value_of t u.expr) × Unused us
    first_unused u us h =
        let p = or_parts (names_other test gs u.target || uses (names_other test gs) u.expr) (list_any (λ (x : Update). names_other test gs x.target || uses (names_other test gs) x.expr) us) h in
        (one_value_in (names_other test gs) s t agree u.expr (or_parts (names_other test gs u.target) (uses (names_other test gs) u.expr) p.0).1, p.1)

    updates_agree : (vs ws : List Value) (us : List Update) → Unused us → AgreeOn test gs vs ws → AgreeOn test gs (updated (global_names gs) vs s us) (updated (global_names gs) ws t us)
    updates_agree vs ws [] h a = a
    updates_agree vs ws (u ∷ us) h a =
        let p = first_unused u us h in
        let i = place_of (global_names gs) u.target in
        updates_agree (slice_set vs i (value_of s u.expr)) (slice_set ws i (value_of t u.expr)) us p.1 (set_agrees gs vs ws i (value_of s u.expr) (value_of t u.expr) p.0 a)

    updates_equal : (names : List Name) (vs : List Value) (us : List Update) → Unused us → updated names vs s us ≡ updated names vs t us
    updates_equal names vs [] h = refl
    updates_equal names vs (u ∷ us) h =
        let p = first_unused u us h in
        ap (λ (x : Value). updated names (slice_set vs (place_of names u.target) x) s us) p.0
        ∙ updates_equal names (slice_set vs (place_of names u.target) (value_of t u.expr)) us p.1

    offers_equal : (cs : List Choice) → list_any (λ c. uses (names_other test gs) c.offer) cs ≡ false → map (λ c. value_of s c.offer) cs ≡ map (λ c. value_of t c.offer) cs
    offers_equal [] h = refl
    offers_equal (c ∷ cs) h =
        let p = or_parts (uses (names_other test gs) c.offer) (list_any (λ (x : Choice). uses (names_other test gs) x.offer) cs) h in
        ap (λ (v : Value). v ∷ map (λ (x : Choice). value_of s x.offer) cs) (one_value_in (names_other test gs) s t agree c.offer p.0)
        ∙ ap (λ (vs : List Value). value_of t c.offer ∷ vs) (offers_equal cs p.1)

  -- ---- actions

  -- what it is that none of these expressions and targets uses such a name
  pub record Unseen (gs : List Global) (action : Action) : Type 0 where
    pub offers : list_any (λ c. uses (names_other test gs) c.offer) action.choices ≡ false
    pub gate : uses (names_other test gs) action.gate ≡ false
    pub guard : uses (names_other test gs) action.guard ≡ false
    pub updates : list_any (λ u. names_other test gs u.target || uses (names_other test gs) u.expr) action.updates ≡ false

  pub unseen : (gs : List Global) (action : Action) → action_uses (names_other test gs) action ≡ false → Unseen gs action
  unseen gs action h =
      let p = or_parts _ _ h in
      let q = or_parts _ _ p.1 in
      let r = or_parts _ _ q.1 in
      record { offers = p.0; gate = q.0; guard = r.0; updates = r.1 }

  module _ (gs : List Global) (s t : Store) (action : Action) (inputs : List Value) (agree : StoresAgree test gs s t) (none : Unseen gs action) where
    gates_agree : AgreeBut (names_other test gs) (gate_values gs s action inputs) (gate_values gs t action inputs)
    gates_agree = present_agree gs s.values t.values (param_names action.params ++ param_names action.outs) (inputs ++ zeros_of_params action.outs) agree

    same_gate : gate_holds gs s action inputs ≡ gate_holds gs t action inputs
    unfolding gate_holds
    same_gate = ap is_true (one_value_in (names_other test gs) (gate_values gs s action inputs) (gate_values gs t action inputs) gates_agree action.gate none.gate)

    same_offers : offers gs s action inputs ≡ offers gs t action inputs
    same_offers = offers_equal gs (gate_values gs s action inputs) (gate_values gs t action inputs) gates_agree action.choices none.offers

    module _ (chosen : List Value) where
      guards_agree : AgreeBut (names_other test gs) (guard_values gs s action inputs chosen) (guard_values gs t action inputs chosen)
      guards_agree =
          present_agree gs s.values t.values (param_names action.params ++ (choice_names action.choices ++ param_names action.outs)) (inputs ++ (chosen ++ zeros_of_params action.outs)) agree

      same_guard : guard_holds gs s action inputs chosen ≡ guard_holds gs t action inputs chosen
      same_guard = ap is_true (one_value_in (names_other test gs) (guard_values gs s action inputs chosen) (guard_values gs t action inputs chosen) guards_agree action.guard none.guard)

      stores_agree : StoresAgree test gs (store_after gs s action inputs chosen) (store_after gs t action inputs chosen)
      stores_agree = updates_agree gs (guard_values gs s action inputs chosen) (guard_values gs t action inputs chosen) guards_agree s.values t.values action.updates none.updates agree

      same_outs : outs_after gs s action inputs chosen ≡ outs_after gs t action inputs chosen
      same_outs = updates_equal gs (guard_values gs s action inputs chosen) (guard_values gs t action inputs chosen) guards_agree (param_names action.outs) (zeros_of_params action.outs) action.updates none.updates

      by_guard : (b c : Bool) → b ≡ c →
          FireAlike test gs (if b then Some (store_after gs s action inputs chosen, outs_after gs s action inputs chosen) else None)
          (if c then Some (store_after gs t action inputs chosen, outs_after gs t action inputs chosen) else None)
      by_guard true true e = (stores_agree, same_outs)
      by_guard true false e = absurd (true≢false e)
      by_guard false true e = absurd (true≢false (sym e))
      by_guard false false e = tt

      fires_alike : FireAlike test gs (fires gs s action inputs chosen) (fires gs t action inputs chosen)
      unfolding fires
      fires_alike = by_guard (guard_holds gs s action inputs chosen) (guard_holds gs t action inputs chosen) same_guard

pub acts_alike : (test : Global → Bool) (gs : List Global) (s t : Store) (action : Action) (inputs : List Value) → StoresAgree test gs s t → action_uses (names_other test gs) action ≡ false → ActsAlike test gs s t action inputs
acts_alike test gs s t action inputs agree unused =
    let none = unseen test gs action unused in
    record {
      gate = same_gate test gs s t action inputs agree none;
      offered = same_offers test gs s t action inputs agree none;
      guard = λ chosen. same_guard test gs s t action inputs agree none chosen;
      fired = λ chosen. fires_alike test gs s t action inputs agree none chosen;
    }
