-- The offered step of a thread that stands late is made, unless it fails.
use Rattle.std.proofs.Common.{ℕ, ◌≡◌, Bool, true, false, List, [], map, Option, Some, None, refl, slice_get, ap, sym, subst, ◌∙◌, inl, inr, ◌⊎◌}
use Rattle.std.specs.Prelude.{All}
use Rattle.std.proofs.lemmas.Bool.{false≢true, not-false}
use Rattle.std.proofs.lemmas.List.Elements.{All-nil}
use Rattle.civl_bits.specs.Value.{IsValue}
use Rattle.civl_bits.specs.declared.value.Value.{Value}
use Rattle.civl_firing.specs.values.Values.{HaveSorts}
use Rattle.civl_tree.specs.declared.action.Action.{Action}
use Rattle.civl_tree.specs.declared.program.Program.{Program}
use Rattle.civl_firing.specs.declared.store.Store.{Store}
use Rattle.civl_firing.specs.Fired.{gate_holds, offers}
use Rattle.civl_meaning.specs.declared.config.Move.{Move}
use Rattle.civl_meaning.specs.declared.config.Plain.{Plain}
use Rattle.civl_meaning.specs.declared.config.Running.{Running}
use Rattle.civl_meaning.specs.declared.config.Config.{Config}
use Rattle.civl_meaning.specs.declared.config.Change.TheVariants as change
use Rattle.civl_meaning.specs.Step.{thread_after}
use Rattle.civl_meaning.specs.Failing.{IsMove}
use Rattle.civl_meaning.specs.Layers.{program_at}
use Rattle.civl_meaning.specs.Config.{IsStacked}
use Rattle.civl_soundness.proofs.Fitting.{all_at}
use Rattle.civl_soundness.proofs.Firing.{offers_are_sorted}
use Rattle.civl_layers.proofs.PlainPrograms.{layered_is_plain}
use Rattle.civl_reduction.specs.interleavings.Reduction.{Between, Late}
use Rattle.civl_reduction.specs.interleavings.Threads.{Threads, outcome, config_with, doing_fails, fails_in, stands_in}
use Rattle.civl_reduction.specs.interleavings.Threads as threads
use Rattle.civl_reduction.proofs.interleavings.Exchanging.{makes, calls}
use Rattle.civl_meaning.specs.Change.{Doing, doing}
use Rattle.civl_meaning.specs.Change as does
use Rattle.civl_reduction.specs.exchanges.Interleavings.{Chosen, Call, whole, as_config, as_move}
use Rattle.civl_reduction.specs.mover_laws.Movers.{IsAt}
use Rattle.civl_reduction.proofs.mover_laws.Moving.{left_movers_fire}
use Rattle.civl_reduction.proofs.mover_laws.Instance.{Met}
use Rattle.civl_reduction.specs.checked.Checked.{SpawnsAreInRoots, ActionsKeepPermissions, ActionsAreMovers, IsChecked}
use Rattle.civl_reduction.specs.blocks.Stands.{stands}
use Rattle.civl_reduction.specs.blocks.Turns.{LateDoes}
use Rattle.civl_reduction.specs.blocks.Reduces.{layer_threads}
use Rattle.civl_reduction.proofs.blocks.Standing.Threads.{late_does}
use Rattle.civl_reduction.proofs.staged.Stages.Reducing.{phases, parted}
use Rattle.civl_reduction.specs.gathered.System.{layer_run, place_at}
use Rattle.civl_reduction.specs.gathered.Offered.{offers_of, offers_to, offered}
use Rattle.civl_reduction.proofs.gathered.Moving.{Kept, step_down, fails_same}

module _ (r : SpawnsAreInRoots) (p : ActionsKeepPermissions) (a : ActionsAreMovers) (program : Program) (layer : ℕ) (store : Store) (k : IsChecked program layer store) where
  abbrev plain : Plain
  plain = program_at program layer

  abbrev Q : Threads Store Running Call Chosen (List Value)
  Q = layer_threads program layer store

  -- the offered step is made, by values
  abbrev pub Steps : Config → ℕ → Type 0
  Steps c t = (e : Config) × ((layer_run program layer store).step c (offered plain c t) ≡ Some e) × IsMove (offered plain c t)

  module _ (c : Config) (t : ℕ) (q : Running) (h : Kept r p a program layer store k c) (there : slice_get c.threads t ≡ Some q) where
    -- from what is offered to the step in the system
    by_outcome : (values : List Value) → offers_of plain.program.globals c.store (doing plain q) ≡ values → (v : All IsValue values)
        → (z : threads.Outcome Store Running) → outcome Q (whole q (doing plain q)) c.store (values, v) ≡ Some z → Steps c t
    by_outcome values is v z e =
        let m : Move = record { thread = t; choices = values } in
        let same : m ≡ offered plain c t = ap (λ (vs : List Value). record { thread = t; choices = vs }) (sym is ∙ sym (ap (offers_to plain c.store) there)) in
        let y = config_with (as_config c) t z in
        let made = step_down program layer store c m v y (makes Q (as_config c) (as_move m v) q z there e) in
        (record { store = y.store; threads = y.threads }, subst (λ (n : Move). (layer_run program layer store).step c n ≡ Some (record { store = y.store; threads = y.threads })) same made, subst IsMove same v)

    late_so : stands program layer q ≡ Late → LateDoes program layer (whole q (doing plain q))
    late_so s = late_does program layer k.layered (layered_is_plain program k.layered layer) k.yields q.callee q.args q.state (all_at (IsStacked plain) c.threads t q there h.of_plain.stacked) s

    -- of an action that is called there
    module _ (action : Action) (args : List Value) (f : List Value → Running) (calls_it : whole q (doing plain q) ≡ threads.Calls (action, args) f) where
      met : Met program layer c.store (action, args)
      met = (parted r p a program layer store k).met (as_config c) t q (action, args) f h there calls_it

      sorted : HaveSorts (offers plain.program.globals c.store action args) (map (λ x. x.sort) action.choices)
      sorted = offers_are_sorted program action c.store args (record { rules = k.layered.rules; place = met.number; there = met.action; store_fits = met.sorted; inputs_fit = met.inputs })

      at : IsAt program layer (record { action = action; inputs = args; chosen = offers plain.program.globals c.store action args })
      at = record { number = met.number; invoked = record { action = met.action; inputs = met.inputs; chosen = sorted }; exists = met.exists }

      fires_it : stands program layer q ≡ Late → gate_holds plain.program.globals c.store action args ≡ true → offers_of plain.program.globals c.store (doing plain q) ≡ offers plain.program.globals c.store action args → Steps c t
      fires_it s gate is =
          let left = (phases r p a program layer store k).late_left q (action, args) f (as_config c, t, h, there) calls_it s in
          let y = left_movers_fire program layer c.store (record { action = action; inputs = args; chosen = offers plain.program.globals c.store action args }) k.layered (a program layer k.layered k.hold k.below) met.sorted at left gate in
          by_outcome (offers plain.program.globals c.store action args) is sorted.fit (y.1, f y.2, [])
          (ap (λ (D : threads.Doing Running Call (List Value)). outcome Q D c.store (offers plain.program.globals c.store action args, sorted.fit)) calls_it
          ∙ calls Q (action, args) f c.store y.1 (offers plain.program.globals c.store action args, sorted.fit) y.2 gate y.0 y.3)

    by_doing : (D : Doing) → doing plain q ≡ D → stands program layer q ≡ Late → doing_fails Q (whole q (doing plain q)) c.store ≡ false → Steps c t
    by_doing does.Fails e s f = absurd (false≢true (sym f ∙ ap (λ (D : Doing). doing_fails Q (whole q D) c.store) e))
    by_doing does.Waits e s f = absurd (subst (λ (D : Doing). LateDoes program layer (whole q D)) e (late_so s))
    by_doing does.Ends e s f = absurd (subst (λ (D : Doing). LateDoes program layer (whole q D)) e (late_so s))
    by_doing (does.Spawns other place) e s f = absurd (subst (λ (D : Doing). LateDoes program layer (whole q D)) e (late_so s))
    by_doing (does.Goes locals place) e s f =
        by_outcome [] (ap (offers_of plain.program.globals c.store) e) (All-nil IsValue) (c.store, thread_after q (change.Goes locals place), [])
        (ap (λ (D : Doing). outcome Q (whole q D) c.store ([], All-nil IsValue)) e)
    by_doing (does.Enters frame place) e s f =
        by_outcome [] (ap (offers_of plain.program.globals c.store) e) (All-nil IsValue) (c.store, thread_after q (change.Enters frame place), [])
        (ap (λ (D : Doing). outcome Q (whole q D) c.store ([], All-nil IsValue)) e)
    by_doing (does.Leaves frame) e s f =
        by_outcome [] (ap (offers_of plain.program.globals c.store) e) (All-nil IsValue) (c.store, thread_after q (change.Leaves frame), [])
        (ap (λ (D : Doing). outcome Q (whole q D) c.store ([], All-nil IsValue)) e)
    by_doing (does.Calls names locals results next action args) e s f =
        fires_it action args _ (ap (whole q) e) s (not-false (gate_holds plain.program.globals c.store action args) (sym (ap (λ (D : Doing). doing_fails Q (whole q D) c.store) e) ∙ f))
        (ap (offers_of plain.program.globals c.store) e)

    -- what is offered are values
    are_values : (D : Doing) → doing plain q ≡ D → All IsValue (offers_of plain.program.globals c.store D)
    are_values (does.Calls names locals results next action args) e = (sorted action args _ (ap (whole q) e)).fit
    are_values does.Fails e = All-nil IsValue
    are_values does.Waits e = All-nil IsValue
    are_values does.Ends e = All-nil IsValue
    are_values (does.Goes locals place) e = All-nil IsValue
    are_values (does.Enters frame place) e = All-nil IsValue
    are_values (does.Leaves frame) e = All-nil IsValue
    are_values (does.Spawns other place) e = All-nil IsValue

    steps_there : stands program layer q ≡ Late → fails_in Q c.store (slice_get c.threads t) ≡ false → Steps c t
    steps_there s f = by_doing (doing plain q) refl s (sym (ap (fails_in Q c.store) there) ∙ f)

  late_there : (o : Option Running) → stands_in (stands program layer) o ≡ Late → (q : Running) × (o ≡ Some q) × (stands program layer q ≡ Late)
  late_there None e = absurd (between_late e)
    where
      between_late : Between ≡ Late → ⊥
      between_late h = cc
  late_there (Some q) e = (q, refl, e)

  pub late_steps : (c : Config) (t : ℕ) → Kept r p a program layer store k c → place_at program layer c t ≡ Late → ((layer_run program layer store).fails c t ≡ true) ⊎ Steps c t
  late_steps c t h late = go (fails_in Q c.store (slice_get c.threads t)) refl (late_there (slice_get c.threads t) late)
    where
      go : (b : Bool) → fails_in Q c.store (slice_get c.threads t) ≡ b → (q : Running) × (slice_get c.threads t ≡ Some q) × (stands program layer q ≡ Late) → ((layer_run program layer store).fails c t ≡ true) ⊎ Steps c t
      go true e x = inl (fails_same program layer store c.store (slice_get c.threads t) ∙ e)
      go false e x = inr (steps_there c t x.0 h x.1 x.2 e)

  pub offered_is_move : (c : Config) (t : ℕ) → Kept r p a program layer store k c → IsMove (offered plain c t)
  offered_is_move c t h = go (slice_get c.threads t) refl
    where
      go : (o : Option Running) → slice_get c.threads t ≡ o → All IsValue (offers_to plain c.store o)
      go None e = All-nil IsValue
      go (Some q) e = are_values c t q h e (doing plain q) refl
