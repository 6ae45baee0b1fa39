-- What the conditions on movers say of two actions that meet in a store.
use Rattle.std.proofs.Common.{rules, ◌≡◌, ℕ, ◌+◌, ◌-◌, Bool, true, false, not, ◌&&◌, ◌||◌, List, [], ◌∷◌, map, refl, sym, ap, ◌∙◌, subst, Option, None, Some, ◌≤◌, arith, nat_le}
use Rattle.std.specs.Prelude.{if◌then◌else◌, IsTrue, ◌↔◌}
use Rattle.std.proofs.lemmas.Bool.{false≢true, not-false, eq-eqb, leb-true, and_parts}
use Rattle.std.proofs.lemmas.Option.{same_Some, none-some}
use Rattle.civl_bits.specs.Value.{same_value}
use Rattle.civl_bits.specs.declared.value.Value.{Value}
use Rattle.civl_firing.specs.values.Values.{HaveSorts}
use Rattle.civl_tree.specs.declared.program.Global.{Global}
use Rattle.civl_tree.specs.declared.program.Program.{Program}
use Rattle.civl_tree.proofs.Bools.{not_second}
use Rattle.civl_firing.specs.declared.store.Store.{Store}
use Rattle.civl_firing.specs.Stores.{IsStore}
use Rattle.civl_firing.specs.Fired.{guard_holds, fires, offers, store_after, outs_after}
use Rattle.civl_firing.proofs.Having.{rest_sorts}
use Rattle.civl_layers.specs.Ranges.{exists_in}
use Rattle.civl_layers.specs.Names.{action_range}
use Rattle.civl_layers.specs.Layered.{IsLayered}
use Rattle.civl_soundness.proofs.Firing.{updates_keep_sorts, offers_are_sorted}
use Rattle.civl_conditions.specs.footprints.Agreement.{AgreeOn, StoresAgree, exists_at}
use Rattle.civl_conditions.proofs.footprints.Keeping.{agree_back, agree_then, agree_both, leaves_others}
use Rattle.civl_conditions.proofs.footprints.Existing.{uses_what_exists}
use Rattle.civl_conditions.specs.Values.{Invoked, same_in, same_stores, same_values}
use Rattle.civl_conditions.specs.Movers.{on_some, gate_of, fires_of, apart, clashes, spoils, reveals}
use Rattle.civl_reduction.specs.mover_laws.Movers.{IsInvoked, MaySwap, RightMoversMove, LeftMoversMove, LeftMoversFire}
use Rattle.civl_reduction.proofs.mover_laws.Meeting.{meeting, met_at}

-- ---- equality

pub same_is_equality : (v w : Value) → IsTrue (same_value v w) ↔ (v ≡ w)
same_is_equality = search rules

value_is : (v w : Value) → same_value v w ≡ true → v ≡ w
value_is v w e = (same_is_equality v w).0 e

pub values_are : (vs ws : List Value) → same_values vs ws ≡ true → vs ≡ ws
values_are [] [] e = refl
values_are [] (w ∷ ws) e = absurd (false≢true e)
values_are (v ∷ vs) [] e = absurd (false≢true e)
values_are (v ∷ vs) (w ∷ ws) e =
    let p = and_parts (same_value v w) (same_values vs ws) e in
    ap (λ (x : Value). x ∷ vs) (value_is v w p.0) ∙ ap (λ (xs : List Value). w ∷ xs) (values_are vs ws p.1)

-- lists of values of the globals' sorts that are the same on some globals
pub agree_in : (test : Global → Bool) (gs : List Global) (vs ws : List Value) → HaveSorts vs (map (λ g. g.sort) gs) → HaveSorts ws (map (λ g. g.sort) gs) → same_in test gs vs ws ≡ true → AgreeOn test gs vs ws
agree_in test [] [] [] h k e = tt
agree_in test [] [] (w ∷ ws) h k e = absurd (false≢true k.are)
agree_in test [] (v ∷ vs) ws h k e = absurd (false≢true h.are)
agree_in test (g ∷ gs) [] ws h k e = absurd (false≢true h.are)
agree_in test (g ∷ gs) (v ∷ vs) [] h k e = absurd (false≢true k.are)
agree_in test (g ∷ gs) (v ∷ vs) (w ∷ ws) h k e =
    let p = and_parts (not (test g) || same_value v w) (same_in test gs vs ws) e in
    (λ t. value_is v w (so (test g) t p.0), agree_in test gs vs ws (rest_sorts v g.sort vs (map (λ g. g.sort) gs) h) (rest_sorts w g.sort ws (map (λ g. g.sort) gs) k) p.1)
  where
    so : (b : Bool) → b ≡ true → (not b || same_value v w) ≡ true → same_value v w ≡ true
    so true t q = q
    so false t q = absurd (false≢true t)

-- ---- an action that fires

fires_by : (program : Program) (store : Store) (x : Invoked) (after : Store) (outs : List Value) → fires_of program store x ≡ Some (after, outs) → (store_after program.globals store x.action x.inputs x.chosen ≡ after) × (guard_holds program.globals store x.action x.inputs x.chosen ≡ true)
unfolding fires
fires_by program store x after outs e = go (guard_holds program.globals store x.action x.inputs x.chosen) refl e
  where
    go : (b : Bool) → guard_holds program.globals store x.action x.inputs x.chosen ≡ b → if◌then◌else◌ {A = Option (Store × List Value)} b (Some (store_after program.globals store x.action x.inputs x.chosen, outs_after program.globals store x.action x.inputs x.chosen)) None ≡ Some (after, outs)
        → (store_after program.globals store x.action x.inputs x.chosen ≡ after) × (guard_holds program.globals store x.action x.inputs x.chosen ≡ true)
    go true q h = (ap (λ (p : Store × List Value). p.0) (same_Some (store_after program.globals store x.action x.inputs x.chosen, outs_after program.globals store x.action x.inputs x.chosen) (after, outs) h), q)
    go false q h = absurd (none-some (after, outs) h)

module _ (program : Program) (src : IsLayered program) where
  -- the store behind it has the globals' sorts
  after_fits : (number : ℕ) (store : Store) (x : Invoked) (after : Store) (outs : List Value) → IsStore program.globals store → IsInvoked program number x → fires_of program store x ≡ Some (after, outs) → IsStore program.globals after
  after_fits number store x after outs fit i e =
      let k = updates_keep_sorts program x.action store x.inputs x.chosen (record { rules = src.rules; place = number; there = i.action; store_fits = fit; inputs_fit = i.inputs }) i.chosen in
      subst (IsStore program.globals) (fires_by program store x after outs e).0 k.0

  -- and keeps the globals that don't exist in a layer in which the action does
  keeps_hidden : (number layer : ℕ) (store : Store) (x : Invoked) (after : Store) (outs : List Value) → IsStore program.globals store → IsInvoked program number x → exists_in layer (action_range x.action) ≡ true → fires_of program store x ≡ Some (after, outs)
      → StoresAgree (λ g. not (exists_at layer g)) program.globals store after
  keeps_hidden number layer store x after outs fit i there e = leaves_others (exists_at layer) program.globals store x.action x.inputs x.chosen (after, outs) fit (uses_what_exists program number layer x.action src i.action there) e

  -- two ends that are the same where both actions are are the same
  ends_same : (layer : ℕ) (store one other : Store) → IsStore program.globals one → IsStore program.globals other → StoresAgree (λ g. not (exists_at layer g)) program.globals store one → StoresAgree (λ g. not (exists_at layer g)) program.globals store other
      → same_stores (exists_at layer) program one other ≡ true → one ≡ other
  ends_same layer store one other h k a b e =
      let hidden = agree_then (λ g. not (exists_at layer g)) program.globals one.values store.values other.values (agree_back (λ g. not (exists_at layer g)) program.globals store.values one.values a) b in
      ap (λ (vs : List Value). store_of vs) (agree_both (exists_at layer) program.globals one.values other.values (agree_in (exists_at layer) program.globals one.values other.values h k e) hidden)
    where
      store_of : List Value → Store
      store_of vs = record { values = vs }

  -- x and then y, where they don't clash
  swaps : (step i j : ℕ) (store : Store) (x y : Invoked) → IsStore program.globals store → IsInvoked program i x → IsInvoked program j y
      → exists_in (step - 1) (action_range x.action) ≡ true → exists_in (step - 1) (action_range y.action) ≡ true
      → clashes program step store x y ≡ false → MaySwap program store x y
  swaps step i j store x y fit a b there also none middle end outs results gx gy fx fy first gate second =
      by_first (fires_of program store y) refl kept
    where
      -- the condition, unfolded
      kept : on_some (fires_of program store y) (λ c. on_some (fires_of program c.0 x) (λ d. same_stores (exists_at (step - 1)) program end d.0 && (same_values outs d.1 && same_values results c.1))) ≡ true
      kept =
          not-false _ (subst (λ (o : Option (Store × List Value)). on_some o (λ q. not (on_some (fires_of program store y) (λ c. on_some (fires_of program c.0 x) (λ d. same_stores (exists_at (step - 1)) program q.0 d.0 && (same_values outs d.1 && same_values q.1 c.1))))) ≡ false) second
          (so (gate_of program middle y) gate
          (subst (λ (o : Option (Store × List Value)). on_some o (λ p. gate_of program p.0 y && on_some (fires_of program p.0 y) (λ q. not (on_some (fires_of program store y) (λ c. on_some (fires_of program c.0 x) (λ d. same_stores (exists_at (step - 1)) program q.0 d.0 && (same_values p.1 d.1 && same_values q.1 c.1)))))) ≡ false) first
          (so (gate_of program store y) gy (so (gate_of program store x) gx none)))))
        where
          so : (g : Bool) → g ≡ true → {r : Bool} → (g && r) ≡ false → r ≡ false
          so true e h = h
          so false e h = absurd (false≢true e)

      ended : (c d : Store × List Value) → fires_of program store y ≡ Some c → fires_of program c.0 x ≡ Some d → (same_stores (exists_at (step - 1)) program end d.0 && (same_values outs d.1 && same_values results c.1)) ≡ true
          → (start : Store) × (fires program.globals store y.action y.inputs y.chosen ≡ Some (start, results)) × (fires program.globals start x.action x.inputs x.chosen ≡ Some (end, outs))
      ended c d q r e =
          let p = and_parts (same_stores (exists_at (step - 1)) program end d.0) _ e in
          let s = and_parts (same_values outs d.1) (same_values results c.1) p.1 in
          let layer = step - 1 in
          let middle_fit = after_fits i store x middle outs fit a first in
          let end_fit = after_fits j middle y end results middle_fit b second in
          let start_fit = after_fits j store y c.0 c.1 fit b q in
          let other_fit = after_fits i c.0 x d.0 d.1 start_fit a r in
          let hides : Global → Bool = λ g. not (exists_at layer g) in
          let one = agree_then hides program.globals store.values middle.values end.values (keeps_hidden i layer store x middle outs fit a there first) (keeps_hidden j layer middle y end results middle_fit b also second) in
          let other = agree_then hides program.globals store.values c.0.values d.0.values (keeps_hidden j layer store y c.0 c.1 fit b also q) (keeps_hidden i layer c.0 x d.0 d.1 start_fit a there r) in
          let end_is : end ≡ d.0 = ends_same layer store end d.0 end_fit other_fit one other p.0 in
          let outs_are : outs ≡ d.1 = values_are outs d.1 s.0 in
          let results_are : results ≡ c.1 = values_are results c.1 s.1 in
          (c.0, q ∙ ap (λ (l : List Value). Some (c.0, l)) (sym results_are), r ∙ (ap (λ (s2 : Store). Some (s2, d.1)) (sym end_is) ∙ ap (λ (l : List Value). Some (end, l)) (sym outs_are)))

      by_second : (c : Store × List Value) → fires_of program store y ≡ Some c → (o : Option (Store × List Value)) → fires_of program c.0 x ≡ o → on_some o (λ d. same_stores (exists_at (step - 1)) program end d.0 && (same_values outs d.1 && same_values results c.1)) ≡ true
          → (start : Store) × (fires program.globals store y.action y.inputs y.chosen ≡ Some (start, results)) × (fires program.globals start x.action x.inputs x.chosen ≡ Some (end, outs))
      by_second c q None r e = absurd (false≢true e)
      by_second c q (Some d) r e = ended c d q r e

      by_first : (o : Option (Store × List Value)) → fires_of program store y ≡ o → on_some o (λ c. on_some (fires_of program c.0 x) (λ d. same_stores (exists_at (step - 1)) program end d.0 && (same_values outs d.1 && same_values results c.1))) ≡ true
          → (start : Store) × (fires program.globals store y.action y.inputs y.chosen ≡ Some (start, results)) × (fires program.globals start x.action x.inputs x.chosen ≡ Some (end, outs))
      by_first None q e = absurd (false≢true e)
      by_first (Some c) q e = by_second c q (fires_of program c.0 x) refl e

-- ---- the laws

on_made : (o : Option (Store × List Value)) (test : Store × List Value → Bool) (after : Store) (outs : List Value) → o ≡ Some (after, outs) → on_some o test ≡ false → test (after, outs) ≡ false
on_made o test after outs e h = subst (λ (p : Option (Store × List Value)). on_some p test ≡ false) e h

pub right_movers_move : RightMoversMove
right_movers_move program layer store x y src h m right =
    let met = met_at layer x.action y.action m.first.exists m.second.exists in
    let step = meeting x.action y.action + 1 in
    let i = m.first.number in
    let j = m.second.number in
    let clash = not_second (apart program store x y) (clashes program step store x y) m.disjoint (h.right_swaps step i j store x y met.3 m.sorted m.first.invoked m.second.invoked right met.0) in
    let spoil = not_second (apart program store x y) (spoils program store x y) m.disjoint (h.right_keeps step i j store x y met.3 m.sorted m.first.invoked m.second.invoked right met.0) in
    record {
      swaps = swaps program src step i j store x y m.sorted m.first.invoked m.second.invoked met.1 met.2 clash;
      keeps = λ after outs gx gy fires_so. not-false (gate_of program after y) (on_made (fires_of program store x) (λ a. not (gate_of program a.0 y)) after outs fires_so (not_second (gate_of program store y) _ gy (not_second (gate_of program store x) _ gx spoil)));
    }

pub left_movers_move : LeftMoversMove
left_movers_move program layer store x y src h m left =
    let met = met_at layer x.action y.action m.first.exists m.second.exists in
    let step = meeting x.action y.action + 1 in
    let i = m.first.number in
    let j = m.second.number in
    let clash = not_second (apart program store x y) (clashes program step store y x) m.disjoint (h.left_swaps step i j store x y met.3 m.sorted m.first.invoked m.second.invoked left met.0) in
    let spoil = not_second (apart program store x y) (spoils program store y x) m.disjoint (h.left_kept step i j store x y met.3 m.sorted m.first.invoked m.second.invoked left met.0) in
    let reveal = not_second (apart program store x y) (reveals program store x y) m.disjoint (h.left_breaks step i j store x y met.3 m.sorted m.first.invoked m.second.invoked left met.0) in
    record {
      swaps = swaps program src step j i store y x m.sorted m.second.invoked m.first.invoked met.2 met.1 clash;
      kept = λ after outs gy gx fires_so. not-false (gate_of program after x) (on_made (fires_of program store y) (λ a. not (gate_of program a.0 x)) after outs fires_so (not_second (gate_of program store x) _ gx (not_second (gate_of program store y) _ gy spoil)));
      breaks = λ after outs gx gy fires_so. on_made (fires_of program store x) (λ a. gate_of program a.0 y) after outs fires_so (not_second (not (gate_of program store y)) _ (ap not gy) (not_second (gate_of program store x) _ gx reveal));
    }

pub left_movers_fire : LeftMoversFire
unfolding fires
left_movers_fire program layer store x src h fit at left gate =
    let i = at.invoked in
    let number = at.number in
    let low : x.action.first ≤ layer = leb-true x.action.first layer (and_parts (nat_le x.action.first layer) (nat_le layer x.action.last) at.exists).0 in
    let wait = h.left_fires (x.action.first + 1) number store x (omega (arith, low)) fit i left (eq-eqb (x.action.first + 1) (x.action.first + 1) refl) in
    let open_so : guard_holds program.globals store x.action x.inputs (offers program.globals store x.action x.inputs) ≡ true = not-false _ (not_second (gate_of program store x) _ gate wait) in
    let sorted = offers_are_sorted program x.action store x.inputs (record { rules = src.rules; place = number; there = i.action; store_fits = fit; inputs_fit = i.inputs }) in (
      sorted.are,
      store_after program.globals store x.action x.inputs (offers program.globals store x.action x.inputs),
      outs_after program.globals store x.action x.inputs (offers program.globals store x.action x.inputs),
      ap (λ (b : Bool). if◌then◌else◌ {A = Option (Store × List Value)} b (Some (store_after program.globals store x.action x.inputs (offers program.globals store x.action x.inputs), outs_after program.globals store x.action x.inputs (offers program.globals store x.action x.inputs))) None) open_so,
    )
