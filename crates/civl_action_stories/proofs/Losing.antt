-- The story of what values violate a condition by has a line that says where something is lost.
use Rattle.std.specs.Prelude.{option_map, option_and_then, nat_eq, if◌then◌else◌, is_some, not}
use Rattle.std.specs.Option.{option_map_or}
use Rattle.std.proofs.Common.{◌≡◌, ◌∙◌, ℕ, zero, suc, ◌+◌, ◌-◌, ◌<◌, Bool, true, false, ◌&&◌, ◌||◌, List, [], ◌∷◌, codes, map, filter, length, slice_get, Option, None, Some, refl, sym, ap, subst, arith}
use Rattle.std.proofs.lemmas.Bool.Decides.{nat_tests}
use Rattle.civl_bits.specs.declared.value.Value.{Value}
use Rattle.civl_tree.specs.declared.action.Action.{Action}
use Rattle.civl_tree.specs.declared.expr.Expr.{Expr}
use Rattle.civl_tree.specs.declared.program.Invariant.{Invariant}
use Rattle.civl_tree.specs.declared.program.Proc.{Proc}
use Rattle.civl_tree.specs.declared.program.Program.{Program}
use Rattle.civl_tree.proofs.Lists.{get_there}
use Rattle.civl_firing.specs.declared.store.Store.{Store}
use Rattle.civl_layers.specs.declared.cut.Cut.{Cut}
use Rattle.civl_layers.specs.Cuts.{proc_cuts}
use Rattle.civl_conditions.specs.footprints.Agreement.{exists_at}
use Rattle.civl_conditions.specs.paths.Seen.{exists_near}
use Rattle.civl_conditions.specs.declared.condition.Condition.{Condition}
use Rattle.civl_conditions.specs.declared.condition.Condition.TheVariants as condition
use Rattle.civl_conditions.specs.declared.condition.Target.{Target}
use Rattle.civl_conditions.specs.declared.condition.Target.TheVariants as target
use Rattle.civl_conditions.specs.Steps.{of_cut}
use Rattle.civl_conditions.specs.Values.{Invoked, invoked, store_of, count_of, instance_count}
use Rattle.civl_conditions.specs.declared.condition.Part.{Part}
use Rattle.civl_conditions.specs.Invariants.{holds_of_globals, invariant_lost, invariants_hold, start_fails, meets_init}
use Rattle.civl_conditions.specs.Movers.{apart, gate_of}
use Rattle.civl_conditions.specs.Targets.{target_lost, yield_holds, other_of}
use Rattle.civl_clashes.specs.declared.violations.Clash.{Clash}
use Rattle.civl_clashes.specs.declared.violations.Exchanged.{Exchanged}
use Rattle.civl_clashes.specs.declared.violations.Exchanged.TheVariants as exchanged
use Rattle.civl_clashes.specs.declared.violations.Effect.{Effect}
use Rattle.civl_clashes.specs.declared.violations.Instance.{Instance}
use Rattle.civl_clashes.specs.declared.violations.Pair.{Pair}
use Rattle.civl_clashes.specs.declared.violations.Violation.{Violation}
use Rattle.civl_clashes.specs.declared.violations.Violation.TheVariants.{Starts, Loses, Clashes, Spoils, Reveals, Waits, Strays}
use Rattle.civl_clashes.specs.Effects.{instance, pair, effect_of}
use Rattle.civl_clashes.specs.Clashes.{clash_of}
use Rattle.civl_clashes.specs.Losses.{loss_of}
use Rattle.civl_clashes.specs.Gates.{spoil_of, reveal_of, wait_of}
use Rattle.civl_clashes.specs.Strays.{apart_beside, lost_in, stray_of}
use Rattle.civl_clashes.specs.Told.{violation, keep_violation, pair_violation, apart_violation, fire_violation, act_violation, start_violation}
use Rattle.civl_lines.specs.Losing.{tell_loss}
use Rattle.civl_lines.specs.declared.line.Line.{Line}
use Rattle.civl_action_stories.specs.Actors.{Actor, actor, of_actor}
use Rattle.civl_action_stories.specs.Starts.{invariant_place, invariant_story}
use Rattle.civl_action_stories.specs.Losses.{loss_story}
use Rattle.civl_action_stories.specs.Clashes.{clash_story, exchanged_story}
use Rattle.civl_action_stories.specs.Gates.{spoil_story, reveal_story, wait_story}
use Rattle.civl_action_stories.specs.Strays.{act_story, target_story, stray_story, yield_at}
use Rattle.civl_action_stories.specs.Told.{of_pair, violation_story}
use Rattle.civl_action_stories.specs.Laws.{ViolationsTellLosses}

-- ---- by cases

and_second : (x y : Bool) → (x && y) ≡ true → y ≡ true
and_second true y e = e
and_second false y e = absurd (cc)

of_if : (P : Violation → Type 0) (b : Bool) (o q : Option Violation) (v : Violation) → (o ≡ Some v → P v) → (q ≡ Some v → P v)
    → (if b then o else q) ≡ Some v → P v
of_if P true o q v one other e = one e
of_if P false o q v one other e = other e

of_map : {A : Type 0} (P : Violation → Type 0) (f : A → Violation) (o : Option A) (v : Violation) → ((a : A) → o ≡ Some a → P (f a))
    → option_map f o ≡ Some v → P v
of_map P f None v h e = absurd (cc)
of_map P f (Some a) v h e = let same : f a ≡ v = cc in subst P same (h a refl)

of_none : (P : Violation → Type 0) (v : Violation) → None ≡ Some v → P v
of_none P v e = absurd (cc)

of_number : {A : Type 0} (P : Violation → Type 0) (f : A → Option Violation) (o : Option A) (v : Violation) → ((a : A) → o ≡ Some a → f a ≡ Some v → P v)
    → option_map_or f o None ≡ Some v → P v
of_number P f None v h e = absurd (cc)
of_number P f (Some a) v h e = h a refl e

-- ---- actions that are there

of_actor_tells : (program : Program) (i : Instance) (a : Action) (tell : Actor → List Line) → slice_get program.actions i.action ≡ Some a
    → tell_loss (tell (actor program i a)) ≡ true → tell_loss (of_actor program i tell) ≡ true
of_actor_tells program i a tell there h = by (slice_get program.actions i.action) there
  where
    by : (o : Option Action) → o ≡ Some a → tell_loss (option_map_or tell (option_map (actor program i) o) []) ≡ true
    by None e = absurd (cc)
    by (Some b) e =
        let same : a ≡ b = cc in
        subst (λ (c : Action). tell_loss (tell (actor program i c)) ≡ true) same h

of_pair_tells : (program : Program) (p : Pair) (a b : Action) (tell : Actor → Actor → List Line) → slice_get program.actions p.first.action ≡ Some a
    → slice_get program.actions p.second.action ≡ Some b → ((x y : Actor) → tell_loss (tell x y) ≡ true) → tell_loss (of_pair program p tell) ≡ true
of_pair_tells program p a b tell first second h =
    of_actor_tells program p.first a (λ x. of_actor program p.second (tell x)) first
    (of_actor_tells program p.second b (tell (actor program p.first a)) second (h (actor program p.first a) (actor program p.second b)))

exchanged_tells : (program : Program) (g : Store) (y_first : Bool) (x y : Actor) (e : Exchanged) → tell_loss (exchanged_story program g y_first x y e) ≡ true
exchanged_tells program g y_first x y exchanged.WaitsAtOnce = refl
exchanged_tells program g y_first x y (exchanged.WaitsBehind e) = refl
exchanged_tells program g y_first x y (exchanged.Ends order differences) = refl

clash_tells : (program : Program) (g : Store) (y_first : Bool) (clash : Clash) (x y : Actor) → tell_loss (clash_story program g y_first clash x y) ≡ true
clash_tells program g y_first clash x y = exchanged_tells program g y_first x y clash.exchanged

-- ---- invariants that are there

place_below : (step : ℕ) (is : List Invariant) (i : ℕ) (e : Expr) → slice_get (map (λ v. v.expr) (filter (λ v. nat_eq v.step step) is)) i ≡ Some e
    → invariant_place step is i < length is
place_below step [] i e h = absurd (cc)
place_below step (v ∷ vs) i e h = by (nat_eq v.step step) i (λ j k. place_below step vs j e k) h
  where
    rest : List Invariant
    rest = filter (λ v. nat_eq v.step step) vs

    by : (b : Bool) (i : ℕ) → ((j : ℕ) → slice_get (map (λ v. v.expr) rest) j ≡ Some e → invariant_place step vs j < length vs)
        → slice_get (map (λ v. v.expr) (if b then v ∷ rest else rest)) i ≡ Some e
        → (if b then (if nat_eq i 0 then 0 else invariant_place step vs (i - 1) + 1) else invariant_place step vs i + 1) < length (v ∷ vs)
    by true zero below h = omega arith
    by true (suc n) below h =
        let more : nat_eq (suc n) 0 ≡ false = grind (arith, nat_tests) in
        let there : invariant_place step vs n < length vs = below n h in
        let one_less : suc n - 1 ≡ n = omega arith in
        let is : (if nat_eq (suc n) 0 then 0 else invariant_place step vs (suc n - 1) + 1) ≡ invariant_place step vs n + 1 =
        ap (λ b. if◌then◌else◌ {A = ℕ} b 0 (invariant_place step vs (suc n - 1) + 1)) more ∙ ap (λ (k : ℕ). invariant_place step vs k + 1) one_less in
        omega (arith, there, is)
    by false i below h = omega (arith, below i h)

invariant_tells : (program : Program) (step i : ℕ) (text : List ℕ) (g h : Store) → invariant_lost program step i g ≡ true
    → tell_loss (invariant_story program (invariant_place step program.invariants i) text h) ≡ true
invariant_tells program step i text g h lost = by (slice_get (map (λ v. v.expr) (filter (λ v. nat_eq v.step step) program.invariants)) i) refl lost
  where
    place : ℕ
    place = invariant_place step program.invariants i

    at : (o : Option Invariant) (w : Invariant) → slice_get program.invariants place ≡ o → o ≡ Some w → tell_loss (invariant_story program place text h) ≡ true
    at None w is e = absurd (cc)
    at (Some w) u is e = simp is

    by : (o : Option Expr) → slice_get (map (λ v. v.expr) (filter (λ v. nat_eq v.step step) program.invariants)) i ≡ o
        → option_map_or (λ e. not (holds_of_globals program g e)) o false ≡ true → tell_loss (invariant_story program place text h) ≡ true
    by None is e = absurd (cc)
    by (Some x) is e =
        let there = get_there program.invariants place (place_below step program.invariants i x is) in
        at (slice_get program.invariants place) there.0 refl there.1

-- ---- another thread's yield that is there

module _ (program : Program) (values : List Value) (at : ℕ) (before after : Store) where
  yield_tells : (q c : ℕ) → target_lost program 0 (target.Yield q c) values at before after ≡ true
      → (step : ℕ) → tell_loss (target_story program step after values at (target.Yield q c)) ≡ true
  yield_tells q c lost step = by (slice_get program.procs q) lost
    where
      in_proc : (proc : Proc) (o : Option Cut) → option_map_or (λ cut. yield_holds program proc cut (other_of proc values at) before
          && not (yield_holds program proc cut (other_of proc values at) after)) o false ≡ true
          → tell_loss (option_map_or (λ cut. yield_at program q after values at proc cut) o []) ≡ true
      in_proc proc None h = absurd (cc)
      in_proc proc (Some cut) h = refl

      by : (o : Option Proc) → option_map_or (λ proc. option_map_or (λ cut. yield_holds program proc cut (other_of proc values at) before
          && not (yield_holds program proc cut (other_of proc values at) after)) (slice_get (proc_cuts proc) c) false) o false ≡ true
          → tell_loss (option_map_or (λ proc. option_map_or (λ cut. yield_at program q after values at proc cut) (slice_get (proc_cuts proc) c) []) o []) ≡ true
      by None h = absurd (cc)
      by (Some proc) h = in_proc proc (slice_get (proc_cuts proc) c) h

  target_tells : (step : ℕ) (t : Target) → target_lost program step t values at before after ≡ true
      → tell_loss (target_story program step after values at t) ≡ true
  target_tells step (target.Invariant i) lost = invariant_tells program step i (codes "is lost") after after lost
  target_tells step (target.Yield q c) lost = yield_tells q c lost step

-- ---- each condition

module _ (program : Program) (values : List Value) (v : Violation) where
  abbrev Tells : Condition → Violation → Type 0
  Tells condition u = tell_loss (violation_story program condition values u) ≡ true

  start_tells : (step i : ℕ) → violation program (condition.Start step i) values ≡ Some v → Tells (condition.Start step i) v
  unfolding violation violation_story
  start_tells step i e = by (start_fails program step i g) refl e
    where
      g : Store
      g = record { values = values }

      by : (b : Bool) → start_fails program step i g ≡ b → (if b then Some (Starts g) else None) ≡ Some v → Tells (condition.Start step i) v
      by false fails e = absurd (cc)
      by true fails e =
          let same : Starts g ≡ v = cc in
          subst (Tells (condition.Start step i)) same (invariant_tells program step i (codes "is false in this initial store") g g
          (and_second (meets_init program g) (invariant_lost program step i g) fails))

  keep_tells : (step m : ℕ) → violation program (condition.Keep step m) values ≡ Some v → Tells (condition.Keep step m) v
  unfolding violation violation_story
  keep_tells step m e = of_number (Tells (condition.Keep step m)) _ (slice_get program.actions m) v (λ a there f. of_map (Tells (condition.Keep step m)) _ _ v
      (λ l is. of_actor_tells program _ a _ there refl) f) e

  fire_tells : (step m : ℕ) → violation program (condition.Fire step m) values ≡ Some v → Tells (condition.Fire step m) v
  unfolding violation violation_story
  fire_tells step m e = of_number (Tells (condition.Fire step m)) _ (slice_get program.actions m) v (λ a there f. of_map (Tells (condition.Fire step m)) _ _ v
      (λ y is. of_actor_tells program _ a _ there refl) f) e

  module _ (number step m n : ℕ) (a b : Action) (first : slice_get program.actions m ≡ Some a) (second : slice_get program.actions n ≡ Some b) (g : Store) (x y : Invoked) where
    abbrev PairTells : Violation → Type 0
    PairTells u = Tells (condition.Pair number step m n) u

    pair_told : pair_violation program number step g m x n y ≡ Some v → PairTells v
    unfolding violation_story
    pair_told e =
        of_if PairTells (nat_eq number 3) _ _ v
        (of_map PairTells _ (clash_of program step g x y) v (λ c is. of_pair_tells program (pair g m x n y) a b (clash_story program g (nat_eq number 5) c) first second (clash_tells program g (nat_eq number 5) c)))
        (of_if PairTells (nat_eq number 4) _ _ v
        (of_map PairTells _ (spoil_of program g x y) v (λ c is. of_pair_tells program (pair g m x n y) a b (spoil_story program g c) first second (λ p q. refl)))
        (of_if PairTells (nat_eq number 5) _ _ v
        (of_map PairTells _ (clash_of program step g y x) v (λ c is. of_pair_tells program (pair g n y m x) b a (clash_story program g (nat_eq number 5) c) second first (clash_tells program g (nat_eq number 5) c)))
        (of_if PairTells (nat_eq number 6) _ _ v
        (of_map PairTells _ (spoil_of program g y x) v (λ c is. of_pair_tells program (pair g n y m x) b a (spoil_story program g c) second first (λ p q. refl)))
        (of_if PairTells (nat_eq number 7) _ _ v
        (of_map PairTells _ (reveal_of program g x y) v (λ c is. of_pair_tells program (pair g m x n y) a b (reveal_story program g c) first second (λ p q. refl)))
        (of_none PairTells v))))) e

  pair_tells : (number step m n : ℕ) → violation program (condition.Pair number step m n) values ≡ Some v → Tells (condition.Pair number step m n) v
  unfolding violation
  pair_tells number step m n e =
      of_number (Tells (condition.Pair number step m n)) _ (slice_get program.actions m) v (λ a first f.
      of_number (Tells (condition.Pair number step m n)) _ (slice_get program.actions n) v (λ b second h.
      let g : Store = store_of (exists_at (step - 1)) program values in
      let x : Invoked = invoked values (count_of (exists_at (step - 1)) program) a in
      let y : Invoked = invoked values (count_of (exists_at (step - 1)) program + instance_count a) b in
      of_if (Tells (condition.Pair number step m n)) (apart program g x y) (pair_violation program number step g m x n y) None v
      (pair_told number step m n a b first second g x y) (of_none (Tells (condition.Pair number step m n)) v) h) f) e

  stray_lost : (step : ℕ) (g : Store) (x : Invoked) (t : Target) (at : ℕ) (e : Effect) → stray_of program step g x t values at ≡ Some e
      → target_lost program step t values at g e.store ≡ true
  stray_lost step g x t at e is = by (invariants_hold program step g && (gate_of program g x && apart_beside program g x t values at)) is
    where
      in_effect : (o : Option Effect) → option_and_then (lost_in program step g t values at) o ≡ Some e → target_lost program step t values at g e.store ≡ true
      in_effect None h = absurd (cc)
      in_effect (Some w) h = if_lost (target_lost program step t values at g w.store) refl h
        where
          if_lost : (b : Bool) → target_lost program step t values at g w.store ≡ b → (if b then Some w else None) ≡ Some e → target_lost program step t values at g e.store ≡ true
          if_lost true lost k =
              let same : w ≡ e = cc in
              subst (λ (u : Effect). target_lost program step t values at g u.store ≡ true) same lost
          if_lost false lost k = absurd (cc)

      by : (b : Bool) → (if b then option_and_then (lost_in program step g t values at) (effect_of program g x) else None) ≡ Some e
          → target_lost program step t values at g e.store ≡ true
      by true h = in_effect (effect_of program g x) h
      by false h = absurd (cc)

  act_tells : (step m : ℕ) (t : Target) → violation program (condition.Act step m t) values ≡ Some v → Tells (condition.Act step m t) v
  unfolding violation violation_story
  act_tells step m t e =
      of_number (Tells (condition.Act step m t)) _ (slice_get program.actions m) v (λ a there f.
      of_map (Tells (condition.Act step m t)) _ _ v (λ w is.
      of_actor_tells program _ a _ there
      (target_tells program values (count_of (exists_near step) program + instance_count a) (store_of (exists_near step) program values) w.store step t
      (stray_lost step (store_of (exists_near step) program values) (invoked values (count_of (exists_near step) program) a) t _ w is))) f) e

no_path : (program : Program) (part : Part) (step q c : ℕ) (values : List Value) (v : Violation) → violation program (condition.Path part step q c) values ≡ Some v
    → tell_loss (violation_story program (condition.Path part step q c) values v) ≡ true
unfolding violation
no_path program part step q c values v e = absurd (cc)

no_block : (program : Program) (step q c : ℕ) (t : Target) (values : List Value) (v : Violation) → violation program (condition.Block step q c t) values ≡ Some v
    → tell_loss (violation_story program (condition.Block step q c t) values v) ≡ true
unfolding violation
no_block program step q c t values v e = absurd (cc)

pub violations_tell_losses : ViolationsTellLosses
violations_tell_losses program (condition.Start step i) values v e = start_tells program values v step i e
violations_tell_losses program (condition.Keep step m) values v e = keep_tells program values v step m e
violations_tell_losses program (condition.Pair number step m n) values v e = pair_tells program values v number step m n e
violations_tell_losses program (condition.Fire step m) values v e = fire_tells program values v step m e
violations_tell_losses program (condition.Act step m t) values v e = act_tells program values v step m t e
violations_tell_losses program (condition.Path part step q c) values v e = no_path program part step q c values v e
violations_tell_losses program (condition.Block step q c t) values v e = no_block program step q c t values v e
