-- The sums of actions: how they are added up, and how they are found.
use Rattle.std.proofs.Common.{◌≡◌, ℕ, zero, suc, ◌+◌, ◌<◌, List, [], ◌∷◌, map, length, get_or, refl, sym, ap, ◌∙◌, subst, drop, true}
use Rattle.std.specs.Prelude.{Option, None, Some, slice_get}
use Rattle.std.specs.List.{AllZip}
use Rattle.std.specs.List.{find}
use Rattle.std.specs.Option.{option_map_or}
use Rattle.civl_weighing.specs.declared.weight.Weight.{Weight}
use Rattle.civl_weighing.specs.Weighing.{Weighs}
use Rattle.std.proofs.lemmas.List.{drop_more}
use Rattle.std.proofs.lemmas.Option.{slice_get_read}
use Rattle.civl_tree.specs.declared.name.Name.{Name}
use Rattle.civl_tree.specs.rules.Names.{same_name, action_named}
use Rattle.civl_tree.specs.declared.action.Action.{Action}
use Rattle.civl_tree.specs.declared.action.Choice.{Choice}
use Rattle.civl_tree.specs.declared.action.Update.{Update}
use Rattle.civl_tree.specs.declared.program.Program.{Program}
use Rattle.civl_tree.specs.rules.Scopes.{Scope}
use Rattle.civl_firing.specs.values.Weights.{weight_of}
use Rattle.civl_firing.specs.values.ActionWeights.{update_weights, offer_weights}
use Rattle.civl_conditions.specs.Weights.{summed}
use Rattle.civl_weights.specs.declared.sums.actions.ActionSums.{ActionSums}
use Rattle.civl_weights.specs.sums.Sums.{OfAction, OfMaybe}

pub updates_are : (scope : Scope) (us : List Update) → summed (map (λ u. weight_of scope u.expr) us) ≡ update_weights scope us
updates_are scope [] = refl
updates_are scope (u ∷ us) = ap (λ (n : ℕ). weight_of scope u.expr + n) (updates_are scope us)

pub offers_are : (scope : Scope) (cs : List Choice) → summed (map (λ x. weight_of scope x.offer) cs) ≡ offer_weights scope cs
offers_are scope [] = refl
offers_are scope (x ∷ cs) = ap (λ (n : ℕ). weight_of scope x.offer + n) (offers_are scope cs)

-- ---- lists of sums, one for each

module _ {A B : Type 0} (R : A → B → Type 0) where
  -- at each place both have one
  pub zip_found : (xs : List A) (ys : List B) (i : ℕ) (y : B) → AllZip R xs ys → slice_get ys i ≡ Some y → (x : A) × (slice_get xs i ≡ Some x) × R x y
  zip_found [] [] i y h e = absurd (none_some e)
    where
      none_some : {y : B} → None ≡ Some y → ⊥
      none_some e = cc
  zip_found [] (b ∷ ys) i y h e = absurd h
  zip_found (a ∷ xs) [] i y h e = absurd h
  zip_found (a ∷ xs) (b ∷ ys) zero y h e = (a, refl, subst (R a) (some_same e) h.0)
    where
      some_same : {b y : B} → Some b ≡ Some y → b ≡ y
      some_same e = cc
  zip_found (a ∷ xs) (b ∷ ys) (suc i) y h e = zip_found xs ys i y h.1 e

  pub zip_none : (xs : List A) (ys : List B) (i : ℕ) → AllZip R xs ys → slice_get ys i ≡ None → slice_get xs i ≡ None
  zip_none [] ys i h e = refl
  zip_none (a ∷ xs) [] i h e = absurd h
  zip_none (a ∷ xs) (b ∷ ys) zero h e = absurd (some_none e)
    where
      some_none : {b : B} → Some b ≡ None → ⊥
      some_none e = cc
  zip_none (a ∷ xs) (b ∷ ys) (suc i) h e = zip_none xs ys i h.1 e

  pub zip_at : (xs : List A) (ys : List B) (i : ℕ) (x : A) → AllZip R xs ys → slice_get xs i ≡ Some x → (y : B) × (slice_get ys i ≡ Some y) × R x y
  zip_at [] [] i x h e = absurd (none_some e)
    where
      none_some : {x : A} → None ≡ Some x → ⊥
      none_some e = cc
  zip_at [] (b ∷ ys) i x h e = absurd h
  zip_at (a ∷ xs) [] i x h e = absurd h
  zip_at (a ∷ xs) (b ∷ ys) zero x h e = (b, refl, subst (λ (z : A). R z b) (some_same e) h.0)
    where
      some_same : {a x : A} → Some a ≡ Some x → a ≡ x
      some_same e = cc
  zip_at (a ∷ xs) (b ∷ ys) (suc i) x h e = zip_at xs ys i x h.1 e

-- ---- by names

module _ (program : Program) where
  pub maybe_none : (found : Option Action) → OfMaybe program found None → None ≡ found
  maybe_none None h = refl
  maybe_none (Some a) h = absurd h

  pub named_here : (sums : List ActionSums) (name : Name) (at : ℕ) (action : Action) (r : Option ActionSums) → AllZip (OfAction program) program.actions sums → at < length program.actions → action ≡ get_or program.actions at action
      → same_name name action.name ≡ true → find (λ a. same_name name a.name) (drop at program.actions) ≡ find (λ a. same_name name a.name) program.actions → r ≡ slice_get sums at → OfMaybe program (action_named program name) r
  named_here sums name at action r h l e t k g =
      let here = zip_at (OfAction program) program.actions sums at action h (slice_get_read program.actions (length program.actions) at action refl l e) in
      let first : find (λ a. same_name name a.name) (action ∷ drop (at + 1) program.actions) ≡ Some action = rw t refl in
      let found : Some action ≡ action_named program name = sym first ∙ ap (λ (x : Action). find (λ a. same_name name a.name) (x ∷ drop (at + 1) program.actions)) e ∙ ap (find (λ a. same_name name a.name)) (sym (drop_more program.actions at action l)) ∙ k in
      subst (λ (o : Option Action). OfMaybe program o r) found (subst (λ (o : Option ActionSums). OfMaybe program (Some action) o) (sym (g ∙ here.1)) here.2)

  -- where the list is lent
  pub named_shown : (shown : List Action) (sums : List ActionSums) (name : Name) (at : ℕ) (action : Action) (r : Option ActionSums) → shown ≡ program.actions → AllZip (OfAction program) program.actions sums → at < length shown → action ≡ get_or shown at action
      → same_name name action.name ≡ true → find (λ a. same_name name a.name) (drop at shown) ≡ find (λ a. same_name name a.name) shown → r ≡ slice_get sums at → OfMaybe program (action_named program name) r
  named_shown shown sums name at action r s h l e t k g =
      named_here sums name at action r h (subst (λ (l : List Action). at < length l) s l) (subst (λ (l : List Action). action ≡ get_or l at action) s e) t
      (subst (λ (l : List Action). find (λ a. same_name name a.name) (drop at l) ≡ find (λ a. same_name name a.name) l) s k) g

pub maybe_there : (program : Program) (found : Option Action) (s : ActionSums) (f : Action → ℕ) {w : Weight} → OfMaybe program found (Some s) → ((a : Action) → OfAction program a s → Weighs w (f a)) → Weighs w (option_map_or f found 0)
maybe_there program None s f h k = absurd h
maybe_there program (Some a) s f h k = k a h
