-- What a target's being lost sees: globals of the two programs of its step, and the values of the other thread's frame.
use Rattle.std.proofs.Common.{◌≡◌, ℕ, ◌+◌, suc, Bool, true, false, not, ◌&&◌, List, [], ◌∷◌, take, drop, get_or, Option, Some, None, inl, inr, refl, sym, ap, ◌∙◌, subst, arith}
use Rattle.std.specs.Prelude.{slice_get, if◌then◌else◌}
use Rattle.std.specs.List.{Contains}
use Rattle.std.specs.Option.{option_map_or}
use Rattle.std.proofs.lemmas.Option.{same_Some}
use Rattle.std.proofs.lemmas.List.{get_or-drop}
use Rattle.std.proofs.lemmas.List.Elements.{Contains-append_cases}
use Rattle.civl_bits.specs.declared.value.Value.{Value}
use Rattle.civl_firing.specs.values.Operators.{nothing}
use Rattle.civl_firing.specs.values.Values.{is_true}
use Rattle.civl_tree.specs.declared.program.Proc.{Proc}
use Rattle.civl_tree.specs.declared.program.Program.{Program}
use Rattle.civl_tree.proofs.Pairs.{contains_nil, contains_one}
use Rattle.civl_firing.specs.declared.store.Store.{Store}
use Rattle.civl_layers.specs.declared.cut.Cut.{Cut}
use Rattle.civl_layers.specs.Cuts.{proc_cuts}
use Rattle.civl_layers.specs.Layered.{IsLayered}
use Rattle.civl_conditions.specs.paths.Ends.{is_yield_cut}
use Rattle.civl_conditions.specs.paths.Seen.{IsProcOf}
use Rattle.civl_conditions.specs.declared.condition.Target.{Target}
use Rattle.civl_conditions.specs.declared.condition.Target.TheVariants as target
use Rattle.civl_conditions.specs.Steps.{each_at, has_layer, step_invariants}
use Rattle.civl_conditions.specs.Listed.{targets}
use Rattle.civl_conditions.specs.Values.{part, flag_at}
use Rattle.civl_conditions.specs.Permissions.{held_at, of_held}
use Rattle.civl_conditions.specs.Assumed.{layer_invariant, cut_invariant}
use Rattle.civl_conditions.specs.Targets.{Other, frame_size, other_of, yield_holds, target_owned, target_lost}
use Rattle.civl_conditions.proofs.Layered.{of_layer}
use Rattle.civl_condition_laws.proofs.Carrying.{same_and}
use Rattle.civl_condition_laws.proofs.Nearby.{Near, invariant_same, note_holds_same, invariant_shown, said_shown}

-- ---- what is listed

module _ {A B : Type 0} (f : ℕ → A → List B) where
  -- a listed element is said of one of these with its number
  pub each_from : (at : ℕ) (xs : List A) (y : B) → Contains (each_at f at xs) y → (k : ℕ) × (x : A) × (slice_get xs k ≡ Some x) × Contains (f (at + k) x) y
  each_from at [] y h = absurd (contains_nil y h)
  each_from at (x ∷ xs) y h =
      elim (Contains-append_cases (f at x) (each_at f (at + 1) xs) y h) [
        | inl here ↦ let e : at ≡ at + 0 = omega arith in (0, x, refl, subst (λ (n : ℕ). Contains (f n x) y) e here)
        | inr there ↦
            let t = each_from (at + 1) xs y there in
            let e : at + 1 + t.0 ≡ at + suc t.0 = omega arith in
            (suc t.0, t.1, t.2, subst (λ (n : ℕ). Contains (f n t.1) y) e t.3)
      ]

module _ (program : Program) (step : ℕ) where
  -- the yield of a target stands in a procedure of the step's layer
  abbrev pub IsTarget : Target → Type 0
  IsTarget (target.Invariant i) = Unit {0}
  IsTarget (target.Yield r y) = (proc : Proc) → slice_get program.procs r ≡ Some proc → IsProcOf program r step proc

  listed_invariant : (t : Target) → Contains (each_at (λ i e. target.Invariant i ∷ []) 0 (step_invariants program step)) t → IsTarget t
  listed_invariant t h = let k = each_from (λ i e. target.Invariant i ∷ []) 0 (step_invariants program step) t h in subst IsTarget (contains_one (target.Invariant (0 + k.0)) t k.3) tt

  abbrev yields_of : ℕ → ℕ → Cut → List Target
  yields_of r y cut = if is_yield_cut cut.kind then target.Yield r y ∷ [] else []

  listed_cut : (r y : ℕ) (cut : Cut) (t : Target) (b : Bool) → Contains (if b then target.Yield r y ∷ [] else []) t → target.Yield r y ≡ t
  listed_cut r y cut t true h = contains_one (target.Yield r y) t h
  listed_cut r y cut t false h = absurd (contains_nil t h)

  listed_proc : (r : ℕ) (proc : Proc) (t : Target) → slice_get program.procs r ≡ Some proc → (b : Bool) → has_layer step proc ≡ b → Contains (if b then each_at (yields_of r) 0 (proc_cuts proc) else []) t → IsTarget t
  listed_proc r proc t at false e h = absurd (contains_nil t h)
  listed_proc r proc t at true e h =
      let k = each_from (yields_of r) 0 (proc_cuts proc) t h in
      subst IsTarget (listed_cut r (0 + k.0) k.1 t (is_yield_cut k.1.kind) k.3)
      (λ p there. of_layer program r step p there (ap (has_layer step) (same_Some p proc (sym there ∙ at)) ∙ e))

  listed_yield : (t : Target) → Contains (each_at (λ q proc. if has_layer step proc then each_at (yields_of q) 0 (proc_cuts proc) else []) 0 program.procs) t → IsTarget t
  listed_yield t h =
      let k = each_from (λ q proc. if has_layer step proc then each_at (yields_of q) 0 (proc_cuts proc) else []) 0 program.procs t h in
      let e : k.0 ≡ 0 + k.0 = omega arith in
      listed_proc (0 + k.0) k.1 t (subst (λ (n : ℕ). slice_get program.procs n ≡ Some k.1) e k.2) (has_layer step k.1) refl k.3

  pub target_is : (t : Target) → Contains (targets program step) t → IsTarget t
  target_is t h = elim (Contains-append_cases _ _ t h) [ inl here ↦ listed_invariant t here | inr there ↦ listed_yield t there ]

-- ---- the globals of the step

module _ (program : Program) (layered : IsLayered program) (step : ℕ) where
  yield_same : (number : ℕ) (proc : Proc) → IsProcOf program number step proc → (cut : Cut) (other : Other) (g h : Store) → Near program layered step g h → yield_holds program proc cut other g ≡ yield_holds program proc cut other h
  yield_same number proc of cut other g h near =
      note_holds_same program layered step proc g h other.locals other.done g h _ other.done (cut_invariant proc cut)
      (said_shown program layered step number proc of layer_invariant (invariant_shown program layered step) cut.statement cut.kind) near near

  pub lost_alike : (t : Target) → IsTarget program step t → (values : List Value) (at : ℕ) (before after ago behind : Store) → Near program layered step before ago → Near program layered step after behind →
      target_lost program step t values at before after ≡ target_lost program step t values at ago behind
  lost_alike (target.Invariant i) is values at before after ago behind near far = invariant_same program layered step after behind far i
  lost_alike (target.Yield r y) is values at before after ago behind near far = by_proc (slice_get program.procs r) refl
    where
      by_cut : (proc : Proc) → IsProcOf program r step proc → (o : Option Cut) →
          option_map_or (λ cut. yield_holds program proc cut (other_of proc values at) before && not (yield_holds program proc cut (other_of proc values at) after)) o false
          ≡ option_map_or (λ cut. yield_holds program proc cut (other_of proc values at) ago && not (yield_holds program proc cut (other_of proc values at) behind)) o false
      by_cut proc of None = refl
      by_cut proc of (Some cut) =
          same_and _ _ _ _ (yield_same r proc of cut (other_of proc values at) before ago near) (ap not (yield_same r proc of cut (other_of proc values at) after behind far))

      by_proc : (o : Option Proc) → slice_get program.procs r ≡ o →
          option_map_or (λ proc. option_map_or (λ cut. yield_holds program proc cut (other_of proc values at) before && not (yield_holds program proc cut (other_of proc values at) after)) (slice_get (proc_cuts proc) y) false) o false
          ≡ option_map_or (λ proc. option_map_or (λ cut. yield_holds program proc cut (other_of proc values at) ago && not (yield_holds program proc cut (other_of proc values at) behind)) (slice_get (proc_cuts proc) y) false) o false
      by_proc None e = refl
      by_proc (Some proc) e = by_cut proc (is proc e) (slice_get (proc_cuts proc) y)

-- ---- the other thread's frame

module _ (program : Program) (step : ℕ) (values others : List Value) (at : ℕ) (behind : drop at values ≡ others) where
  frame_same : (proc : Proc) → other_of proc values at ≡ other_of proc others 0
  frame_same proc =
      ap (λ (vs : List Value). record { locals = take (frame_size proc) vs; done = flag_at values (at + frame_size proc) }) behind
      ∙ ap (λ (v : Value). record { locals = part others 0 (frame_size proc); done = is_true v })
      (sym (get_or-drop at values (frame_size proc) nothing) ∙ (ap (λ (vs : List Value). get_or vs (frame_size proc) nothing) behind ∙ ap (λ (n : ℕ). get_or others n nothing) (omega arith)))

  pub owned_there : (t : Target) → target_owned program t values at ≡ target_owned program t others 0
  owned_there (target.Invariant i) = refl
  owned_there (target.Yield r y) = by_proc (slice_get program.procs r)
    where
      by_proc : (o : Option Proc) → option_map_or (λ proc. of_held (held_at program proc y) (other_of proc values at).locals) o [] ≡ option_map_or (λ proc. of_held (held_at program proc y) (other_of proc others 0).locals) o []
      by_proc None = refl
      by_proc (Some proc) = ap (λ (o : Other). of_held (held_at program proc y) o.locals) (frame_same proc)

  -- the invariant of a yield holds before and not after
  abbrev pub yield_lost : Store → Store → Proc → Cut → Other → Bool
  yield_lost before after proc cut other = yield_holds program proc cut other before && not (yield_holds program proc cut other after)

  pub lost_there : (t : Target) (before after : Store) → target_lost program step t values at before after ≡ target_lost program step t others 0 before after
  lost_there (target.Invariant i) before after = refl
  lost_there (target.Yield r y) before after = by_proc (slice_get program.procs r)
    where
      by_cut : (proc : Proc) (o : Option Cut) → option_map_or (λ cut. yield_lost before after proc cut (other_of proc values at)) o false ≡ option_map_or (λ cut. yield_lost before after proc cut (other_of proc others 0)) o false
      by_cut proc None = refl
      by_cut proc (Some cut) = ap (yield_lost before after proc cut) (frame_same proc)

      by_proc : (o : Option Proc) →
          option_map_or (λ proc. option_map_or (λ cut. yield_lost before after proc cut (other_of proc values at)) (slice_get (proc_cuts proc) y) false) o false
          ≡ option_map_or (λ proc. option_map_or (λ cut. yield_lost before after proc cut (other_of proc others 0)) (slice_get (proc_cuts proc) y) false) o false
      by_proc None = refl
      by_proc (Some proc) = by_cut proc (slice_get (proc_cuts proc) y)
