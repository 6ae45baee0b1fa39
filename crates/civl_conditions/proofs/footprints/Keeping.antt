-- An action leaves the globals that aren't targets of its updates.
use Rattle.std.proofs.Common.{◌≡◌, ℕ, ◌+◌, Bool, true, false, not, ◌||◌, find, List, [], ◌∷◌, Option, Some, None, refl, sym, ap, ◌∙◌, subst, add-one}
use Rattle.std.specs.Prelude.{slice_set, map, if◌then◌else◌}
use Rattle.std.specs.List.{list_any}
use Rattle.std.specs.Str.{bytes_eq}
use Rattle.std.proofs.lemmas.Bool.{or_left, or_right, or_parts, or_from, true≢false, false≢true}
use Rattle.std.proofs.Math.Bool.{not-not}
use Rattle.civl_bits.specs.declared.value.Value.{Value}
use Rattle.civl_firing.specs.values.Values.{HaveSorts}
use Rattle.civl_tree.specs.declared.name.Name.{Name}
use Rattle.civl_tree.specs.declared.action.Action.{Action}
use Rattle.civl_tree.specs.declared.action.Update.{Update}
use Rattle.civl_tree.specs.declared.program.Global.{Global}
use Rattle.civl_tree.specs.rules.Names.{same_name, has_name, targets_of, global_names}
use Rattle.civl_firing.specs.declared.store.Store.{Store}
use Rattle.civl_firing.specs.declared.scope.Scope.{Scope}
use Rattle.civl_firing.specs.Stores.{IsStore}
use Rattle.civl_firing.specs.Truth.{place_of}
use Rattle.civl_firing.specs.Eval.{value_of}
use Rattle.civl_firing.specs.Scope.{guard_values}
use Rattle.civl_firing.specs.Fired.{guard_holds, updated, store_after, outs_after, fires}
use Rattle.civl_firing.proofs.Having.{rest_sorts}
use Rattle.civl_layers.specs.Names.{uses}
use Rattle.civl_conditions.specs.footprints.Agreement.{AgreeOn, StoresAgree, fails_test, names_other, action_uses, no_target}
use Rattle.civl_conditions.proofs.footprints.Acting.{names_first, unseen}

-- ---- agreement

pub agree_self : (test : Global → Bool) (gs : List Global) (vs : List Value) → HaveSorts vs (map (λ g. g.sort) gs) → AgreeOn test gs vs vs
agree_self test [] [] h = tt
agree_self test [] (v ∷ vs) h = absurd (false≢true h.are)
agree_self test (g ∷ gs) [] h = absurd (false≢true h.are)
agree_self test (g ∷ gs) (v ∷ vs) h = (λ f. refl, agree_self test gs vs (rest_sorts v g.sort vs (map (λ g. g.sort) gs) h))

pub agree_back : (test : Global → Bool) (gs : List Global) (vs ws : List Value) → AgreeOn test gs vs ws → AgreeOn test gs ws vs
agree_back test [] [] [] a = tt
agree_back test (g ∷ gs) (v ∷ vs) (w ∷ ws) a = (λ f. sym (a.0 f), agree_back test gs vs ws a.1)
agree_back test _ _ _ a = absurd a

pub agree_then : (test : Global → Bool) (gs : List Global) (us vs ws : List Value) → AgreeOn test gs us vs → AgreeOn test gs vs ws → AgreeOn test gs us ws
agree_then test [] [] [] [] a b = tt
agree_then test [] [] [] (w ∷ ws) a b = absurd b
agree_then test (g ∷ gs) (u ∷ us) (v ∷ vs) [] a b = absurd b
agree_then test (g ∷ gs) (u ∷ us) (v ∷ vs) (w ∷ ws) a b = (λ f. a.0 f ∙ b.0 f, agree_then test gs us vs ws a.1 b.1)
agree_then test _ _ _ _ a b = absurd a

-- those that pass and those that don't, that is all
pub agree_both : (test : Global → Bool) (gs : List Global) (vs ws : List Value) → AgreeOn test gs vs ws → AgreeOn (λ g. not (test g)) gs vs ws → vs ≡ ws
agree_both test [] [] [] a b = refl
agree_both test (g ∷ gs) (v ∷ vs) (w ∷ ws) a b = ap (λ (x : Value). x ∷ vs) (head (test g) refl) ∙ ap (λ (xs : List Value). w ∷ xs) (agree_both test gs vs ws a.1 b.1)
  where
    head : (c : Bool) → test g ≡ c → v ≡ w
    head true e = a.0 e
    head false e = b.0 (ap not e)
agree_both test _ _ _ a b = absurd a

-- ---- updates

next_set : (v x : Value) (vs : List Value) (k : ℕ) → slice_set (v ∷ vs) (k + 1) x ≡ v ∷ slice_set vs k x
next_set v x vs k = ap (λ (i : ℕ). slice_set (v ∷ vs) i x) (add-one k)

module _ (test : Global → Bool) where
  -- what has the name doesn't pass
  abbrev Misses : List Global → Name → Type 0
  Misses gs n = names_other (λ g. not (test g)) gs n ≡ false

  set_keeps : (gs : List Global) (us vs : List Value) (n : Name) (x : Value) → Misses gs n → AgreeOn test gs us vs → AgreeOn test gs us (slice_set vs (place_of (global_names gs) n) x)
  set_keeps [] [] [] n x h a = tt
  set_keeps (g ∷ gs) (u ∷ us) (v ∷ vs) n x h a = go (bytes_eq g.name.bytes n.bytes) refl (λ k. set_keeps gs us vs n x k a.1)
    where
      go : (same : Bool) → bytes_eq g.name.bytes n.bytes ≡ same → (Misses gs n → AgreeOn test gs us (slice_set vs (place_of (global_names gs) n) x)) →
          AgreeOn test (g ∷ gs) (u ∷ us) (slice_set (v ∷ vs) (if bytes_eq g.name.bytes n.bytes then 0 else place_of (global_names gs) n + 1) x)
      go true e behind =
          subst (λ (b : Bool). AgreeOn test (g ∷ gs) (u ∷ us) (slice_set (v ∷ vs) (if b then 0 else place_of (global_names gs) n + 1) x)) (sym e)
          (λ passes. absurd (true≢false (sym passes ∙ (sym (not-not (test g)) ∙ (sym (names_first (λ h. not (test h)) g gs n true e) ∙ h)))), a.1)
      go false e behind =
          subst (λ (b : Bool). AgreeOn test (g ∷ gs) (u ∷ us) (slice_set (v ∷ vs) (if b then 0 else place_of (global_names gs) n + 1) x)) (sym e)
          (subst (AgreeOn test (g ∷ gs) (u ∷ us)) (sym (next_set v x vs (place_of (global_names gs) n))) (a.0, behind (sym (names_first (λ h. not (test h)) g gs n false e) ∙ h)))
  set_keeps _ _ _ n x h a = absurd a

  updates_keep : (gs : List Global) (us vs : List Value) (scope : Scope) (updates : List Update) → list_any (λ u. names_other (λ g. not (test g)) gs u.target) updates ≡ false → AgreeOn test gs us vs →
      AgreeOn test gs us (updated (global_names gs) vs scope updates)
  updates_keep gs us vs scope [] h a = a
  updates_keep gs us vs scope (u ∷ updates) h a =
      let p = or_parts (names_other (λ g. not (test g)) gs u.target) (list_any (λ (x : Update). names_other (λ g. not (test g)) gs x.target) updates) h in
      updates_keep gs us (slice_set vs (place_of (global_names gs) u.target) (value_of scope u.expr)) scope updates p.1 (set_keeps gs us vs u.target (value_of scope u.expr) p.0 a)

  -- the store of a transition
  fired_keeps : (gs : List Global) (store : Store) (action : Action) (inputs chosen : List Value) (after : Store × List Value) → IsStore gs store →
      list_any (λ u. names_other (λ g. not (test g)) gs u.target) action.updates ≡ false → fires gs store action inputs chosen ≡ Some after → StoresAgree test gs store after.0
  unfolding fires
  fired_keeps gs store action inputs chosen after fit h e = by_guard (guard_holds gs store action inputs chosen) e
    where
      kept : StoresAgree test gs store (store_after gs store action inputs chosen)
      kept = updates_keep gs store.values store.values (guard_values gs store action inputs chosen) action.updates h (agree_self test gs store.values fit)

      by_guard : (b : Bool) → (if b then Some (store_after gs store action inputs chosen, outs_after gs store action inputs chosen) else None) ≡ Some after → StoresAgree test gs store after.0
      by_guard true q =
          let p : (store_after gs store action inputs chosen, outs_after gs store action inputs chosen) ≡ after = cc in
          subst (λ (x : Store × List Value). StoresAgree test gs store x.0) p kept
      by_guard false q = absurd cc

-- ---- targets

module _ (action : Action) where
  abbrev Target : Global → Bool
  Target g = not (no_target action g)

  target_missed : (gs : List Global) (n : Name) → ((g : Global) → bytes_eq g.name.bytes n.bytes ≡ true → has_name (targets_of action) g.name ≡ true) → names_other Target gs n ≡ false
  target_missed [] n h = refl
  target_missed (g ∷ gs) n h = go (bytes_eq g.name.bytes n.bytes) refl (target_missed gs n h)
    where
      go : (same : Bool) → bytes_eq g.name.bytes n.bytes ≡ same → names_other Target gs n ≡ false → names_other Target (g ∷ gs) n ≡ false
      go true e behind = names_first Target g gs n true e ∙ (not-not (not (has_name (targets_of action) g.name)) ∙ ap not (h g e))
      go false e behind = names_first Target g gs n false e ∙ behind

  -- of some of the action's updates, whose targets are those of the action
  targets_missed : (gs : List Global) (us : List Update) → ((n : Name) → has_name (map (λ u. u.target) us) n ≡ true → has_name (targets_of action) n ≡ true) → list_any (λ u. names_other Target gs u.target) us ≡ false
  targets_missed gs [] h = refl
  targets_missed gs (u ∷ us) h =
      or_from (names_other Target gs u.target) (list_any (λ (x : Update). names_other Target gs x.target) us)
      (target_missed gs u.target (λ g e. h g.name (or_left (same_name g.name u.target) (has_name (map (λ x. x.target) us) g.name) e)))
      (targets_missed gs us (λ n e. h n (or_right (same_name n u.target) (has_name (map (λ x. x.target) us) n) e)))

pub keeps_others : (gs : List Global) (store : Store) (action : Action) (inputs chosen : List Value) (after : Store × List Value) → IsStore gs store → fires gs store action inputs chosen ≡ Some after → StoresAgree (no_target action) gs store after.0
keeps_others gs store action inputs chosen after fit e = fired_keeps (no_target action) gs store action inputs chosen after fit (targets_missed action gs action.updates (λ n h. h)) e

-- ---- what isn't used

-- an action leaves the globals that it doesn't use
pub leaves_others : (test : Global → Bool) (gs : List Global) (store : Store) (action : Action) (inputs chosen : List Value) (after : Store × List Value) → IsStore gs store →
    action_uses (names_other test gs) action ≡ false → fires gs store action inputs chosen ≡ Some after → StoresAgree (λ g. not (test g)) gs store after.0
leaves_others test gs store action inputs chosen after fit unused e =
    fired_keeps (λ g. not (test g)) gs store action inputs chosen after fit (all_missed action.updates (unseen test gs action unused).updates) e
  where
    twice : (o : Option Global) → fails_test (λ g. not (not (test g))) o ≡ fails_test test o
    twice None = refl
    twice (Some g) = not-not (not (test g))

    all_missed : (us : List Update) → list_any (λ u. names_other test gs u.target || uses (names_other test gs) u.expr) us ≡ false → list_any (λ u. names_other (λ g. not (not (test g))) gs u.target) us ≡ false
    all_missed [] h = refl
    all_missed (u ∷ us) h =
        let p = or_parts (names_other test gs u.target || uses (names_other test gs) u.expr) (list_any (λ (x : Update). names_other test gs x.target || uses (names_other test gs) x.expr) us) h in
        or_from (names_other (λ g. not (not (test g))) gs u.target) (list_any (λ (x : Update). names_other (λ g. not (not (test g))) gs x.target) us)
        (twice (find (λ g. same_name u.target g.name) gs) ∙ (or_parts (names_other test gs u.target) (uses (names_other test gs) u.expr) p.0).0)
        (all_missed us p.1)
