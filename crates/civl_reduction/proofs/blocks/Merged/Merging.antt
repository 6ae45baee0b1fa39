-- A store with other values for the globals that the next layer introduces.
use Rattle.std.proofs.Common.{ℕ, ◌+◌, ◌≤◌, ◌≡◌, Bool, true, false, not, List, [], ◌∷◌, map, Some, None, Option, slice_get, refl, ap, ◌∙◌, subst, arith, nat_eq, nat_le}
use Rattle.std.specs.Prelude.{if◌then◌else◌, Contains}
use Rattle.std.proofs.lemmas.Bool.{false≢true, eqb-true, leb-true, le-leb, and_parts, and_from, not-false}
use Rattle.civl_bits.specs.declared.value.Value.{Value}
use Rattle.civl_firing.specs.values.Values.{HaveSorts}
use Rattle.civl_tree.specs.declared.action.Action.{Action}
use Rattle.civl_tree.specs.declared.program.Global.{Global}
use Rattle.civl_tree.specs.declared.program.Program.{Program}
use Rattle.civl_tree.proofs.Kept.{global_kept}
use Rattle.civl_tree.proofs.Bools.{not_second}
use Rattle.civl_firing.specs.declared.store.Store.{Store}
use Rattle.civl_firing.specs.Stores.{IsStore}
use Rattle.civl_firing.specs.Fired.{fires}
use Rattle.civl_firing.proofs.Having.{more_sorts, first_sort, rest_sorts}
use Rattle.civl_layers.specs.Ranges.{exists_in, exists_through}
use Rattle.civl_layers.specs.Names.{action_range, global_range}
use Rattle.civl_layers.specs.LayerRules.{layer_rules, introduced_rule}
use Rattle.civl_layers.specs.Layered.{IsLayered}
use Rattle.civl_conditions.specs.footprints.Agreement.{AgreeOn, StoresAgree, exists_at}
use Rattle.civl_conditions.specs.footprints.Laws.{FireAlike}
use Rattle.civl_conditions.proofs.footprints.Acting.{acts_alike}
use Rattle.civl_conditions.proofs.footprints.Keeping.{agree_back, agree_then, agree_both, leaves_others}
use Rattle.civl_conditions.proofs.footprints.Existing.{through_in, uses_what_exists}
use Rattle.civl_condition_laws.proofs.Carrying.{LinearPass, same_linear}
use Rattle.civl_reduction.specs.blocks.Shadow.{merged_values, merged}
use Rattle.civl_reduction.specs.blocks.Merged.{MergedFit, MergedCarry, ActionsActAsThere}

module _ (first : ℕ) where
  fit : (gs : List Global) (vs ws : List Value) → HaveSorts vs (map (λ g. g.sort) gs) → HaveSorts ws (map (λ g. g.sort) gs) → HaveSorts (merged_values first gs vs ws) (map (λ g. g.sort) gs)
  fit [] vs ws h k = h
  fit (g ∷ gs) [] ws h k = absurd (false≢true h.are)
  fit (g ∷ gs) (v ∷ vs) [] h k = absurd (false≢true k.are)
  fit (g ∷ gs) (v ∷ vs) (w ∷ ws) h k = go (nat_eq g.first first) (fit gs vs ws (rest_sorts v g.sort vs (map (λ g. g.sort) gs) h) (rest_sorts w g.sort ws (map (λ g. g.sort) gs) k))
    where
      go : (b : Bool) → HaveSorts (merged_values first gs vs ws) (map (λ g. g.sort) gs) → HaveSorts ((if b then w else v) ∷ merged_values first gs vs ws) (map (λ g. g.sort) (g ∷ gs))
      go true rest = more_sorts w g.sort (merged_values first gs vs ws) (map (λ g. g.sort) gs) (first_sort w g.sort ws (map (λ g. g.sort) gs) k) rest
      go false rest = more_sorts v g.sort (merged_values first gs vs ws) (map (λ g. g.sort) gs) (first_sort v g.sort vs (map (λ g. g.sort) gs) h) rest

module _ (layer : ℕ) where
  -- what exists in the layer isn't introduced in the next one
  old : (g : Global) → exists_at layer g ≡ true → nat_eq g.first (layer + 1) ≡ false
  old g e = go (nat_eq g.first (layer + 1)) refl
    where
      go : (b : Bool) → nat_eq g.first (layer + 1) ≡ b → b ≡ false
      go false q = refl
      go true q = let is = eqb-true g.first (layer + 1) q in let low = leb-true g.first layer (and_parts (nat_le g.first layer) (nat_le layer g.last) e).0 in absurd (omega (arith, is, low))

  -- it agrees with the store on the layer's globals
  pub same_old : (gs : List Global) (vs ws : List Value) → HaveSorts vs (map (λ g. g.sort) gs) → HaveSorts ws (map (λ g. g.sort) gs) → AgreeOn (exists_at layer) gs (merged_values (layer + 1) gs vs ws) vs
  same_old [] [] ws h k = tt
  same_old [] (v ∷ vs) ws h k = absurd (false≢true h.are)
  same_old (g ∷ gs) [] ws h k = absurd (false≢true h.are)
  same_old (g ∷ gs) (v ∷ vs) [] h k = absurd (false≢true k.are)
  same_old (g ∷ gs) (v ∷ vs) (w ∷ ws) h k =
      ((λ e. ap (λ (b : Bool). if b then w else v) (old g e)), same_old gs vs ws (rest_sorts v g.sort vs (map (λ g. g.sort) gs) h) (rest_sorts w g.sort ws (map (λ g. g.sort) gs) k))

  -- with the same values for what is introduced it agrees where the stores do
  same_both : (test : Global → Bool) (gs : List Global) (us vs ws : List Value) → HaveSorts ws (map (λ g. g.sort) gs) → AgreeOn test gs us vs → AgreeOn test gs (merged_values (layer + 1) gs us ws) (merged_values (layer + 1) gs vs ws)
  same_both test [] [] [] ws k a = tt
  same_both test (g ∷ gs) (u ∷ us) (v ∷ vs) [] k a = absurd (false≢true k.are)
  same_both test (g ∷ gs) (u ∷ us) (v ∷ vs) (w ∷ ws) k a = (go (nat_eq g.first (layer + 1)), same_both test gs us vs ws (rest_sorts w g.sort ws (map (λ g. g.sort) gs) k) a.1)
    where
      go : (b : Bool) → test g ≡ true → (if b then w else u) ≡ (if b then w else v)
      go true e = refl
      go false e = a.0 e
  same_both test [] [] (v ∷ vs) ws k a = absurd a
  same_both test [] (u ∷ us) vs ws k a = absurd a
  same_both test (g ∷ gs) [] vs ws k a = absurd a
  same_both test (g ∷ gs) (u ∷ us) [] ws k a = absurd a

pub merged_fit : MergedFit
merged_fit program layer store introduced h k = fit (layer + 1) program.globals store.values introduced.values h k

introduced_among : Contains layer_rules introduced_rule
introduced_among = (5, omega arith, refl)

-- linear globals exist in each layer
pub linear_there : (program : Program) (layer : ℕ) → IsLayered program → layer ≤ program.layers → LinearPass (exists_at layer) program.globals
linear_there program layer layered within place g there is =
    through_in layer (record { first = 0; last = program.layers }) (global_range g)
    (and_from (nat_le 0 layer) (nat_le layer program.layers) (le-leb 0 layer (omega arith)) (le-leb layer program.layers within))
    (not-false (exists_through 0 program.layers (global_range g)) (not_second g.linear (not (exists_through 0 program.layers (global_range g))) is (global_kept layer_rules program layered.layers introduced_rule introduced_among place g there)))

pub merged_carry : MergedCarry
merged_carry program layer store introduced layered within h k =
    same_linear (exists_at layer) program.globals (merged program layer store introduced).values store.values (linear_there program layer layered within) (same_old layer program.globals store.values introduced.values h k)

module _ (program : Program) (layer number : ℕ) (store introduced : Store) (action : Action) (inputs chosen : List Value) (layered : IsLayered program) (at : slice_get program.actions number ≡ Some action)
    (exists : exists_in layer (action_range action) ≡ true) (h : IsStore program.globals store) (k : IsStore program.globals introduced) where
  abbrev there : Store
  there = merged program layer store introduced

  agree : StoresAgree (exists_at layer) program.globals there store
  agree = same_old layer program.globals store.values introduced.values h k

  fired_there : (after : Store) (outs : List Value) (o : Option (Store × List Value)) → fires program.globals there action inputs chosen ≡ o → fires program.globals store action inputs chosen ≡ Some (after, outs)
      → FireAlike (exists_at layer) program.globals o (Some (after, outs)) → o ≡ Some (merged program layer after introduced, outs)
  fired_there after outs None e f a = absurd a
  fired_there after outs (Some p) e f a =
      let unused = uses_what_exists program number layer action layered at exists in
      let after_same = leaves_others (exists_at layer) program.globals store action inputs chosen (after, outs) h unused f in
      let there_same = leaves_others (exists_at layer) program.globals there action inputs chosen p (merged_fit program layer store introduced h k) unused e in
      let others = agree_then (λ g. not (exists_at layer g)) program.globals p.0.values there.values (merged program layer after introduced).values
      (agree_back (λ g. not (exists_at layer g)) program.globals there.values p.0.values there_same)
      (same_both layer (λ g. not (exists_at layer g)) program.globals store.values after.values introduced.values k after_same) in
      let back = agree_back (exists_at layer) program.globals (merged program layer after introduced).values after.values (same_old_after after after_same) in
      let here = agree_then (exists_at layer) program.globals p.0.values after.values (merged program layer after introduced).values a.0 back in
      let same : p.0.values ≡ (merged program layer after introduced).values = agree_both (exists_at layer) program.globals p.0.values (merged program layer after introduced).values here others in
      ap (λ (vs : List Value). Some (record { values = vs }, p.1)) same ∙ ap (λ (os : List Value). Some (merged program layer after introduced, os)) a.1
    where
      -- the store behind it has a value for each global too
      by_lists : (gs : List Global) (us vs ws : List Value) → HaveSorts ws (map (λ g. g.sort) gs) → AgreeOn (λ g. not (exists_at layer g)) gs us vs → AgreeOn (exists_at layer) gs (merged_values (layer + 1) gs vs ws) vs
      by_lists [] [] [] ws q b = tt
      by_lists (g ∷ gs) (u ∷ us) (v ∷ vs) [] q b = absurd (false≢true q.are)
      by_lists (g ∷ gs) (u ∷ us) (v ∷ vs) (w ∷ ws) q b = ((λ e. ap (λ (c : Bool). if c then w else v) (old layer g e)), by_lists gs us vs ws (rest_sorts w g.sort ws (map (λ g. g.sort) gs) q) b.1)
      by_lists [] [] (v ∷ vs) ws q b = absurd b
      by_lists [] (u ∷ us) vs ws q b = absurd b
      by_lists (g ∷ gs) [] vs ws q b = absurd b
      by_lists (g ∷ gs) (u ∷ us) [] ws q b = absurd b

      same_old_after : (next : Store) → StoresAgree (λ g. not (exists_at layer g)) program.globals store next → StoresAgree (exists_at layer) program.globals (merged program layer next introduced) next
      same_old_after next b = by_lists program.globals store.values next.values introduced.values k b

pub actions_act_as_there : ActionsActAsThere
actions_act_as_there program layer number store introduced action inputs chosen layered at exists h k =
    let alike = acts_alike (exists_at layer) program.globals (merged program layer store introduced) store action inputs (agree program layer number store introduced action inputs chosen layered at exists h k) (uses_what_exists program number layer action layered at exists) in
    record {
      gate = alike.gate;
      fires = λ after outs f.
          fired_there program layer number store introduced action inputs chosen layered at exists h k after outs (fires program.globals (merged program layer store introduced) action inputs chosen) refl f
          (subst (FireAlike (exists_at layer) program.globals (fires program.globals (merged program layer store introduced) action inputs chosen)) f (alike.fired chosen));
    }
