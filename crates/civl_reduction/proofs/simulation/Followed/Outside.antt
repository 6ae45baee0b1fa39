-- A step outside the layer's procedures is followed by the same step.
use Rattle.std.proofs.Common.{◌≡◌, ℕ, ◌+◌, ◌≤◌, Bool, true, List, [], ◌∷◌, ◌++◌, refl, sym, ap, ◌∙◌, subst, arith, Option, None, Some, slice_get, slice_set, inl, inr, ◌⊎◌}
use Rattle.std.proofs.lemmas.List.{append-nil}
use Rattle.std.proofs.lemmas.Option.{none-some}
use Rattle.civl_bits.specs.declared.value.Value.{Value}
use Rattle.civl_tree.specs.declared.name.Name.{Name}
use Rattle.civl_tree.specs.declared.action.Action.{Action}
use Rattle.civl_tree.specs.declared.program.Proc.{Proc}
use Rattle.civl_tree.specs.declared.program.Program.{Program}
use Rattle.civl_tree.proofs.Lists.{get_front, get_same}
use Rattle.civl_firing.specs.declared.store.Store.{Store}
use Rattle.civl_firing.specs.Stores.{IsStore}
use Rattle.civl_meaning.specs.declared.config.Plain.{Plain}
use Rattle.civl_meaning.specs.declared.config.Activation.{Activation}
use Rattle.civl_meaning.specs.declared.config.Config as meaning
use Rattle.civl_meaning.specs.declared.config.State.TheVariants.{Before}
use Rattle.civl_meaning.specs.declared.config.Running.{Running}
use Rattle.civl_meaning.specs.declared.config.Stepped.{Stepped}
use Rattle.civl_meaning.specs.declared.config.Change.TheVariants as change
use Rattle.civl_meaning.specs.Change.{with_results, new_frame, Doing, doing}
use Rattle.civl_meaning.specs.Config.{IsOf, ThreadIsSorted, IsStacked}
use Rattle.civl_meaning.specs.Layers.{program_at}
use Rattle.civl_meaning.specs.Step.{thread_after}
use Rattle.civl_layers.specs.Ranges.{exists_in}
use Rattle.civl_layers.specs.Names.{action_range}
use Rattle.civl_layers.proofs.PlainPrograms.{layered_is_plain}
use Rattle.civl_conditions.specs.footprints.Agreement.{StoresAgree, exists_at}
use Rattle.civl_soundness.proofs.Fitting.{all_at}
use Rattle.civl_soundness.proofs.Soundness.{step_is_of}
use Rattle.civl_reduction.specs.interleavings.Threads.{Threads, Config, Move, Outcome, outcome, config_with, step_of}
use Rattle.civl_meaning.specs.Change as does
use Rattle.civl_reduction.specs.exchanges.Interleavings.{Chosen, Call, whole, as_config}
use Rattle.civl_reduction.proofs.exchanges.Exchanging.{steps_back}
use Rattle.civl_reduction.specs.permissions.Apart.{SpawnsStandInRoots}
use Rattle.civl_reduction.proofs.permissions.Calls.{next_exists}
use Rattle.civl_reduction.proofs.mover_laws.Configurations.{next_is}
use Rattle.civl_reduction.specs.checked.Checked.{IsChecked}
use Rattle.civl_reduction.specs.blocks.Blocks.{framed_state, frame_of_layer, inside}
use Rattle.civl_reduction.specs.blocks.Reduces.{plain_move, plain_config, layer_threads}
use Rattle.civl_reduction.specs.blocks.Cuts.{frame_in, frame_at}
use Rattle.civl_reduction.specs.blocks.Shadow.{Shadowed, merged, seen, shadowed_step}
use Rattle.civl_reduction.proofs.blocks.Merged.Merging.{actions_act_as_there}
use Rattle.civl_reduction.specs.simulation.Alike.{CallsInstead}
use Rattle.civl_reduction.specs.simulation.Meets.{FrameMeets, ThreadMeets, MeetsBeside}
use Rattle.civl_reduction.proofs.simulation.Meets.Meaning.{threads_do_alike}
use Rattle.civl_reduction.proofs.simulation.Meets.Frames.{enters_framed}
use Rattle.civl_reduction.proofs.simulation.Followed.Shadows.{done_other, outside_shadow}
use Rattle.civl_reduction.proofs.simulation.Followed.Pairs.{Ties, set_both, push_both}
use Rattle.civl_reduction.proofs.simulation.Followed.Steps.{Made, made, makes, Fires, Comes, comes_so, calls_so}
use Rattle.civl_reduction.proofs.simulation.Followed.Acting.{same_gate, fires_too}
use Rattle.civl_reduction.proofs.simulation.Followed.Known.{Known, does_known}

module _ (program : Program) (layer : ℕ) (store : Store) (k : IsChecked program layer store) (roots : SpawnsStandInRoots program) where
  abbrev pub lower : Plain
  lower = program_at program layer

  abbrev pub upper : Plain
  upper = program_at program (layer + 1)

  abbrev pub P : Threads Store Running Call Chosen (List Value)
  P = layer_threads program layer store

  abbrev pub Q : Threads Store Running Call Chosen (List Value)
  Q = layer_threads program (layer + 1) store

  -- ---- threads beside

  -- beside a thread that stands in no frame of the layer's procedures stands the thread itself
  pub same_beside : (done : Bool) (low : Running) (o : Option Running) → ThreadMeets program layer done (Some low) o → frame_of_layer program (layer + 1) low ≡ None → o ≡ Some low
  same_beside done low None h e = absurd h
  same_beside done low (Some high) h e = ap (λ (r : Running). Some r) (sym (subst (λ (f : Option (Proc × Activation)). FrameMeets program layer done low f high) e h))

  pub meets_same : (done : Bool) (low : Running) → frame_of_layer program (layer + 1) low ≡ None → ThreadMeets program layer done (Some low) (Some low)
  meets_same done low e = subst (λ (f : Option (Proc × Activation)). FrameMeets program layer done low f low) (sym e) refl

  pub tie : (done : ℕ → Bool) → Ties (λ (u : ℕ). ThreadMeets program layer (done u))
  tie done u a = (λ h. h, λ h. h)

  -- ---- configurations

  pub of_next : (layer : ℕ) (c : Config Store Running) (m : Move Chosen) (d : Config Store Running) → step_of (layer_threads program layer store) c m ≡ Some d → IsOf (program_at program layer) (plain_config c) → IsOf (program_at program layer) (plain_config d)
  of_next layer c m d e h =
      subst (λ (z : Stepped × meaning.Config). IsOf (program_at program layer) z.1) (steps_back (program_at program layer) store (inside program layer) (plain_config c) (plain_move m) m.chosen.1 d e)
      (step_is_of (program_at program layer) (plain_config c) (plain_move m) (layered_is_plain program k.layered layer) m.chosen.1 h)

  pub leads_to : (s : Shadowed) (m : Move Chosen) (d : Config Store Running) → step_of P (as_config s.config) m ≡ Some d → (shadowed_step program layer s (plain_move m)).config ≡ plain_config d
  leads_to s m d e = ap (λ (z : Stepped × meaning.Config). z.1) (steps_back lower store (inside program layer) s.config (plain_move m) m.chosen.1 d e)

  -- ---- actions

  -- the action that a thread of a configuration calls exists in the layer
  pub calls_there : (layer : ℕ) → layer ≤ program.layers → (c : meaning.Config) → IsOf (program_at program layer) c → (t : ℕ) (r : Running) → slice_get c.threads t ≡ Some r
      → (names : List Name) (locals : List Value) (results : List Name) (next : ℕ) (action : Action) (args : List Value) → doing (program_at program layer) r ≡ does.Calls names locals results next action args → exists_in layer (action_range action) ≡ true
  calls_there layer within c h t r at names locals results next action args e =
      next_exists program k.layered layer within roots k.linear r (all_at (ThreadIsSorted (program_at program layer)) c.threads t r at h.sorted) (all_at (IsStacked (program_at program layer)) c.threads t r at h.stacked) action args
      (next_is (program_at program layer) r (action, args) (λ outs. thread_after r (change.Goes (with_results names locals results outs) next)) (ap (whole r) e))

  pub within_lower : layer ≤ program.layers
  within_lower = let below = k.below in omega (arith, below)

  pub within_upper : layer + 1 ≤ program.layers
  within_upper = let below = k.below in omega (arith, below)

  -- ---- the step

  module _ (s : Shadowed) (x : meaning.Config) (meets : MeetsBeside program layer s x) (t : ℕ) (low : Running) (at : slice_get s.config.threads t ≡ Some low) (beside : slice_get x.threads t ≡ Some low) (chosen : Chosen) where
    -- the upper program goes to the same, in a store that agrees
    record Both (to : Outcome Store Running) : Type 0 where
      next : Store
      comes : outcome Q (whole low (doing upper low)) x.store chosen ≡ Some (next, to.1, to.2)
      near : StoresAgree (exists_at (layer + 1)) program.globals (merged program layer to.0 s.shadow.store) next
      spawned : (to.2 ≡ []) ⊎ ((new : Running) × (to.2 ≡ new ∷ []) × (new.state ≡ Before))

    quiet : (r : Running) (z : Outcome Store Running) → outcome Q (whole low (doing upper low)) x.store chosen ≡ Some (x.store, r, []) → z ≡ (s.config.store, r, []) → Both z
    quiet r z e q = subst Both (sym q) (record { next = x.store; comes = e; near = meets.stores; spawned = inl refl })

    both : (D : Doing) → doing lower low ≡ D → doing upper low ≡ D → Known program D → (z : Outcome Store Running) → Comes lower low D s.config.store chosen z → Both z
    both (does.Goes locals place) e f known z c = quiet (thread_after low (change.Goes locals place)) z (ap (λ (E : Doing). outcome Q (whole low E) x.store chosen) f) c
    both (does.Enters frame place) e f known z c = quiet (thread_after low (change.Enters frame place)) z (ap (λ (E : Doing). outcome Q (whole low E) x.store chosen) f) c
    both (does.Leaves frame) e f known z c = quiet (thread_after low (change.Leaves frame)) z (ap (λ (E : Doing). outcome Q (whole low E) x.store chosen) f) c
    both (does.Spawns other place) e f known z c =
        subst Both (sym c) (record { next = x.store; comes = ap (λ (E : Doing). outcome Q (whole low E) x.store chosen) f; near = meets.stores; spawned = inr (other, refl, known) })
    both (does.Calls names locals results next action args) e f known z c =
        let low_there = calls_there layer within_lower s.config meets.of_lower t low at names locals results next action args e in
        let high_there = calls_there (layer + 1) within_upper x meets.of_upper t low beside names locals results next action args f in
        let there = actions_act_as_there program layer known.0 s.config.store s.shadow.store action args chosen.0 k.layered known.1 low_there meets.of_lower.store meets.fits in
        let gate = sym (same_gate program layer k.layered known.0 action known.1 high_there (seen program layer s) x.store meets.stores args) ∙ (there.gate ∙ c.0.gate) in
        let too = fires_too program layer k.layered known.0 action known.1 high_there (seen program layer s) x.store meets.stores args chosen.0 (merged program layer c.0.to s.shadow.store) c.0.outs (there.fires c.0.to c.0.outs c.0.fires) in
        let fired : Fires upper x.store chosen action args = record { gate = gate; fit = c.0.fit; to = too.to_store; outs = c.0.outs; fires = too.fires } in
        subst Both (sym c.1) (record {
          next = too.to_store;
          comes = ap (λ (E : Doing). outcome Q (whole low E) x.store chosen) f ∙ calls_so upper store (inside program (layer + 1)) low x.store chosen names locals results next action args fired;
          near = too.agree;
          spawned = inl refl;
        })
    both does.Fails e f known z c = absurd c
    both does.Waits e f known z c = absurd c
    both does.Ends e f known z c = absurd c

  -- ---- its end

  -- where a body of the layer is entered, the thread is in a frame of it then
  entering : (low : Running) (h : CallsInstead program (layer + 1) (doing upper low) (doing lower low)) (to : Outcome Store Running) → (g : Store) (chosen : Chosen) → Comes lower low (does.Enters (new_frame h.number h.proc h.args) h.place) g chosen to
      → frame_of_layer program (layer + 1) to.1 ≡ None → ⊥
  entering low h to g chosen c none =
      none-some (h.proc, new_frame h.number h.proc h.args)
      (sym none ∙ (ap (λ (z : Outcome Store Running). frame_of_layer program (layer + 1) z.1) c ∙ enters_framed program layer low (new_frame h.number h.proc h.args) h.proc h.place h.enters h.there h.layered))

  abbrev Tied : (ℕ → Bool) → List Running → List Running → Type 0
  Tied done xs ys = (u : ℕ) → ThreadMeets program layer (done u) (slice_get xs u) (slice_get ys u)

  no_frame : (r : Running) → r.state ≡ Before → frame_of_layer program (layer + 1) r ≡ None
  no_frame r e = ap (framed_state program (layer + 1)) e

  -- with what is spawned
  with_new : (done : ℕ → Bool) (xs ys : List Running) (new : List Running) → (new ≡ []) ⊎ ((r : Running) × (new ≡ r ∷ []) × (r.state ≡ Before)) → Tied done xs ys → Tied done (xs ++ new) (ys ++ new)
  with_new done xs ys new (inl e) h =
      subst (λ (n : List Running). Tied done (xs ++ n) (ys ++ n)) (sym e)
      (subst (λ (l : List Running). Tied done l (ys ++ [])) (sym (append-nil xs)) (subst (λ (l : List Running). Tied done xs l) (sym (append-nil ys)) h))
  with_new done xs ys new (inr n) h =
      subst (λ (l : List Running). Tied done (xs ++ l) (ys ++ l)) (sym n.1)
      (push_both (λ (u : ℕ). ThreadMeets program layer (done u)) xs ys n.0 (tie done) (λ u. meets_same (done u) n.0 (no_frame n.0 n.2)) h)

  pub outside_follows : (s : Shadowed) (x : meaning.Config) (m : Move Chosen) (d : Config Store Running) → MeetsBeside program layer s x → step_of P (as_config s.config) m ≡ Some d
      → frame_at program (layer + 1) s.config.threads m.thread ≡ None → frame_at program (layer + 1) d.threads m.thread ≡ None
      → (y : Config Store Running) × (step_of Q (as_config x) m ≡ Some y) × MeetsBeside program layer (shadowed_step program layer s (plain_move m)) (plain_config y)
  outside_follows s x m d meets e none later = (
    y,
    goes,
    record {
      of_lower = subst (IsOf lower) (sym leads) (of_next layer (as_config s.config) m d e meets.of_lower);
      of_upper = of_next (layer + 1) (as_config x) m y goes meets.of_upper;
      fits = subst (IsStore program.globals) (sym kept) meets.fits;
      stores = subst (λ (g : Store). StoresAgree (exists_at (layer + 1)) program.globals (merged program layer (shadowed_step program layer s (plain_move m)).config.store g) y.store) (sym kept) (subst (λ (c : meaning.Config). StoresAgree (exists_at (layer + 1)) program.globals (merged program layer c.store s.shadow.store) y.store) (sym (leads ∙ ap plain_config step.is)) b.near);
      threads = subst (λ (c : meaning.Config). Tied (shadowed_step program layer s (plain_move m)).shadow.done c.threads y.threads) (sym (leads ∙ ap plain_config step.is)) tied;
    },
  )
    where
      step : Made lower store (inside program layer) (as_config s.config) m d
      step = made lower store (inside program layer) (as_config s.config) m d e

      low : Running
      low = step.thread

      none_low : frame_of_layer program (layer + 1) step.thread ≡ None
      none_low = ap (frame_in program (layer + 1)) (sym step.there) ∙ none

      beside : slice_get x.threads m.thread ≡ Some step.thread
      beside = same_beside (s.shadow.done m.thread) step.thread (slice_get x.threads m.thread) (subst (λ (o : Option Running). ThreadMeets program layer (s.shadow.done m.thread) o (slice_get x.threads m.thread)) step.there (meets.threads m.thread)) none_low

      -- behind the step the thread is there, and in no frame of the layer
      there_later : slice_get (config_with (as_config s.config) m.thread step.to).threads m.thread ≡ Some step.to.1
      there_later = get_front (slice_set s.config.threads m.thread step.to.1) step.to.2 m.thread step.to.1 (get_same s.config.threads m.thread step.to.1 step.thread step.there)

      none_later : frame_of_layer program (layer + 1) step.to.1 ≡ None
      none_later = ap (frame_in program (layer + 1)) (sym there_later) ∙ (ap (λ (c : Config Store Running). frame_at program (layer + 1) c.threads m.thread) (sym step.is) ∙ later)

      same : doing upper step.thread ≡ doing lower step.thread
      same = elim (threads_do_alike program layer step.thread k.layered) [
        | inl h ↦ h
        | inr h ↦ absurd (entering step.thread h step.to s.config.store m.chosen (subst (λ (D : Doing). Comes lower step.thread D s.config.store m.chosen step.to) h.enters (comes_so lower store (inside program layer) step.thread s.config.store m.chosen step.to (doing lower step.thread) step.comes)) none_later)
      ]

      b : Both s x meets m.thread step.thread step.there beside m.chosen step.to
      b = both s x meets m.thread step.thread step.there beside m.chosen (doing lower step.thread) refl same (does_known lower step.thread) step.to
          (comes_so lower store (inside program layer) step.thread s.config.store m.chosen step.to (doing lower step.thread) step.comes)

      y : Config Store Running
      y = config_with (as_config x) m.thread (b.next, step.to.1, step.to.2)

      goes : step_of Q (as_config x) m ≡ Some y
      goes = makes upper store (inside program (layer + 1)) (as_config x) m step.thread (b.next, step.to.1, step.to.2) beside b.comes

      leads : (shadowed_step program layer s (plain_move m)).config ≡ plain_config d
      leads = leads_to s m d e

      kept : (shadowed_step program layer s (plain_move m)).shadow.store ≡ s.shadow.store
      kept = outside_shadow program layer s (plain_move m) none (ap (λ (c : meaning.Config). frame_at program (layer + 1) c.threads m.thread) leads ∙ later)

      tied : Tied (shadowed_step program layer s (plain_move m)).shadow.done (slice_set s.config.threads m.thread step.to.1 ++ step.to.2) (slice_set x.threads m.thread step.to.1 ++ step.to.2)
      tied =
          with_new (shadowed_step program layer s (plain_move m)).shadow.done (slice_set s.config.threads m.thread step.to.1) (slice_set x.threads m.thread step.to.1) step.to.2 b.spawned
          (set_both (λ (u : ℕ). ThreadMeets program layer (s.shadow.done u)) (λ (u : ℕ). ThreadMeets program layer ((shadowed_step program layer s (plain_move m)).shadow.done u))
          s.config.threads x.threads m.thread step.to.1 step.to.1 step.thread step.thread meets.threads step.there beside
          (meets_same ((shadowed_step program layer s (plain_move m)).shadow.done m.thread) step.to.1 none_later)
          (λ u o p n h. subst (λ (v : Bool). ThreadMeets program layer v o p) (sym (done_other program layer s (plain_move m) u n)) h))
