-- A block is gone through in the frame that its thread's call made, until it ends with the frame or at a yield.
use Rattle.std.proofs.Common.{◌≡◌, ◌≢◌, ℕ, zero, suc, ◌+◌, false, List, [], ◌∷◌, ◌++◌, refl, sym, ap, ◌∙◌, subst, Option, None, Some, slice_get, slice_set, inl, inr, ◌⊎◌}
use Rattle.std.specs.Prelude.{is_some}
use Rattle.std.proofs.lemmas.Bool.{true≢false}
use Rattle.std.proofs.lemmas.List.{append-nil}
use Rattle.std.proofs.lemmas.Option.{none-some, same_Some}
use Rattle.civl_bits.specs.declared.value.Value.{Value}
use Rattle.civl_tree.specs.declared.program.Proc.{Proc}
use Rattle.civl_tree.specs.declared.program.Program.{Program}
use Rattle.civl_tree.proofs.Lists.{get_other, get_same}
use Rattle.civl_firing.specs.declared.store.Store.{Store}
use Rattle.civl_meaning.specs.declared.config.Plain.{Plain}
use Rattle.civl_meaning.specs.declared.config.Activation.{Activation}
use Rattle.civl_meaning.specs.declared.config.State.{State}
use Rattle.civl_meaning.specs.declared.config.State.TheVariants.{Before, Inside, After}
use Rattle.civl_meaning.specs.declared.config.Running.{Running}
use Rattle.civl_meaning.specs.declared.config.Change.TheVariants as change
use Rattle.civl_meaning.specs.Change.{with_results, new_frame, caller_of, outs_in, Doing, leaving, doing}
use Rattle.civl_meaning.specs.Config.{IsOf, ThreadIsSorted, IsStacked}
use Rattle.civl_meaning.specs.Layers.{program_at}
use Rattle.civl_meaning.specs.Step.{goes_on, state_after, thread_after}
use Rattle.civl_layers.proofs.PlainPrograms.{layered_is_plain}
use Rattle.civl_conditions.specs.Assumed.{inputs_of}
use Rattle.civl_reduction.specs.interleavings.Runs.{Opens}
use Rattle.civl_reduction.specs.interleavings.Threads.{Threads, Config, Move, Outcome, inside_in, step_of}
use Rattle.civl_meaning.specs.Change as does
use Rattle.civl_reduction.specs.exchanges.Interleavings.{Chosen, Call}
use Rattle.civl_reduction.specs.checked.Checked.{IsChecked}
use Rattle.civl_reduction.specs.blocks.Blocks.{framed_state, frame_of_layer, block_in, inside}
use Rattle.civl_reduction.specs.blocks.Reduces.{Challenged, layer_threads, layer_system}
use Rattle.civl_reduction.specs.blocks.Cuts.{frame_in, frame_at}
use Rattle.civl_reduction.specs.simulation.Meets.{behind, WasCalled}
use Rattle.civl_reduction.proofs.simulation.Meets.Above.{instead, called_instead}
use Rattle.civl_reduction.proofs.simulation.Meets.Entering.{framed_same, goes_none, leaves_none}
use Rattle.civl_reduction.proofs.simulation.Meets.Frames.{IsFramed, framed, frames, does_inside, enters_outside, enters_framed}
use Rattle.civl_reduction.proofs.simulation.Meets.Inputs.{StaysIn}
use Rattle.civl_reduction.proofs.simulation.Meets.Returning.{returns_behind}
use Rattle.civl_reduction.proofs.simulation.Followed.Steps.{Made, made, Comes, comes_so}
use Rattle.civl_reduction.proofs.simulation.Followed.Fitting.{entered_inputs}

-- the others are as they were
abbrev pub OthersSame : ℕ → List Running → List Running → Type 0
OthersSame t before after = (u : ℕ) → u ≢ t → slice_get after u ≡ slice_get before u

module _ (program : Program) (layer : ℕ) (store : Store) (k : IsChecked program layer store) where
  abbrev lower : Plain
  lower = program_at program layer

  abbrev upper : Plain
  upper = program_at program (layer + 1)

  abbrev P : Threads Store Running Call Chosen (List Value)
  P = layer_threads program layer store

  -- a thread stands in this frame, which the caller's call made
  pub record StandsIn (threads : List Running) (t : ℕ) (caller : Running) (f : Proc × Activation) : Type 0 where
    pub thread : Running
    pub there : slice_get threads t ≡ Some thread
    pub framed_by : frame_of_layer program (layer + 1) thread ≡ Some f
    pub called : WasCalled program layer f thread caller

  -- or it has left it
  abbrev pub HasLeft : List Running → ℕ → Running → Proc × Activation → Type 0
  HasLeft threads t caller f = slice_get threads t ≡ Some (behind caller (doing upper caller) (outs_in f.0 f.1.locals))

  abbrev pub GoesTo : List Running → ℕ → Running → Proc × Activation → Type 0
  GoesTo threads t caller f = ((g : Proc × Activation) × StandsIn threads t caller g) ⊎ HasLeft threads t caller f

  -- ---- in the frame

  goes_frame : (caller : Running) (top : Activation) (at place : ℕ) (locals : List Value)
      → thread_after (thread_after caller (change.Enters top at)) (change.Goes locals place) ≡ thread_after caller (change.Enters (record { procedure = top.procedure; place = place; locals = locals }) at)
  goes_frame caller top at place locals = ap (λ (st : State). record { callee = caller.callee; args = caller.args; state = st }) (by_state caller.state)
    where
      by_state : (st : State) → goes_on (state_after st (change.Enters top at)) locals place ≡ state_after st (change.Enters (record { procedure = top.procedure; place = place; locals = locals }) at)
      by_state Before = refl
      by_state (Inside below frame) = refl
      by_state After = refl

  set_there : (threads : List Running) (t : ℕ) (r new : Running) → slice_get threads t ≡ Some r → slice_get (slice_set threads t new ++ []) t ≡ Some new
  set_there threads t r new e = ap (λ (l : List Running). slice_get l t) (append-nil (slice_set threads t new)) ∙ get_same threads t new r e

  set_others : (threads : List Running) (t : ℕ) (new : Running) → OthersSame t threads (slice_set threads t new ++ [])
  set_others threads t new u n = ap (λ (l : List Running). slice_get l u) (append-nil (slice_set threads t new)) ∙ get_other threads t u new n

  module _ (threads : List Running) (t : ℕ) (caller : Running) (f : Proc × Activation) (h : StandsIn threads t caller f) where
    fr : IsFramed program (layer + 1) h.thread f
    fr = framed program (layer + 1) h.thread f h.framed_by

    stays_frame : (locals : List Value) (place : ℕ) → inputs_of f.0 locals ≡ inputs_of f.0 f.1.locals → StandsIn (slice_set threads t (thread_after h.thread (change.Goes locals place)) ++ []) t caller (f.0, record { procedure = f.1.procedure; place = place; locals = locals })
    stays_frame locals place same =
        let w = h.called in
        let i = framed program (layer + 1) h.thread f h.framed_by in
        record {
          thread = thread_after h.thread (change.Goes locals place);
          there = set_there threads t h.thread (thread_after h.thread (change.Goes locals place)) h.there;
          framed_by = frames program (layer + 1) (thread_after h.thread (change.Goes locals place)) (f.0, record { procedure = f.1.procedure; place = place; locals = locals })
              (record { below = i.below; state = ap (λ (st : State). goes_on st locals place) i.state; there = i.there; layered = i.layered });
          called = record {
            args = w.args;
            place = w.place;
            enters = w.enters;
            inputs = same ∙ w.inputs;
            stands = ap (λ (r : Running). thread_after r (change.Goes locals place)) w.stands ∙ goes_frame caller f.1 w.place place locals;
          };
        }

    -- the frame is removed
    leaves_so : (o : Option Activation) → leaving lower (outs_in f.0 f.1.locals) (caller_of fr.below) ≡ does.Leaves o → thread_after h.thread (change.Leaves o) ≡ behind caller (doing upper caller) (outs_in f.0 f.1.locals)
    unfolding fr
    leaves_so o e =
        let w = h.called in
        let i = framed program (layer + 1) h.thread f h.framed_by in
        let c = called_instead program layer k.layered f h.thread caller i.there i.layered w in
        ap (λ (r : Running). thread_after r (change.Leaves o)) w.stands
        ∙ returns_behind program layer caller (new_frame f.1.procedure f.0 w.args) f.1 w.place (outs_in f.0 f.1.locals) (doing lower caller) w.enters c.1 i.below (sym (ap (λ (r : Running). r.state) w.stands) ∙ i.state) o e

    by_doing : (g : Store) (chosen : Chosen) (z : Outcome Store Running) (D : Doing) → StaysIn f.0 f.1.locals (leaving lower (outs_in f.0 f.1.locals) (caller_of fr.below)) D → Comes lower h.thread D g chosen z
        → OthersSame t threads (slice_set threads t z.1 ++ z.2) × GoesTo (slice_set threads t z.1 ++ z.2) t caller f
    by_doing g chosen z (does.Goes locals place) s c =
        subst (λ (y : Outcome Store Running). OthersSame t threads (slice_set threads t y.1 ++ y.2) × GoesTo (slice_set threads t y.1 ++ y.2) t caller f) (sym c)
        (set_others threads t (thread_after h.thread (change.Goes locals place)), inl ((f.0, record { procedure = f.1.procedure; place = place; locals = locals }), stays_frame locals place s))
    by_doing g chosen z (does.Calls names kept results next action args) s c =
        subst (λ (y : Outcome Store Running). OthersSame t threads (slice_set threads t y.1 ++ y.2) × GoesTo (slice_set threads t y.1 ++ y.2) t caller f) (sym c.1)
        (set_others threads t (thread_after h.thread (change.Goes (with_results names kept results c.0.outs) next)), inl ((f.0, record { procedure = f.1.procedure; place = next; locals = with_results names kept results c.0.outs }), stays_frame (with_results names kept results c.0.outs) next (s c.0.outs)))
    by_doing g chosen z (does.Leaves o) s c =
        subst (λ (y : Outcome Store Running). OthersSame t threads (slice_set threads t y.1 ++ y.2) × GoesTo (slice_set threads t y.1 ++ y.2) t caller f) (sym c)
        (set_others threads t (thread_after h.thread (change.Leaves o)), inr (set_there threads t h.thread (thread_after h.thread (change.Leaves o)) h.there ∙ ap (λ (r : Running). Some r) (leaves_so o s)))
    by_doing g chosen z (does.Enters frame place) s c = absurd s
    by_doing g chosen z (does.Spawns other place) s c = absurd s
    by_doing g chosen z does.Fails s c = absurd c
    by_doing g chosen z does.Waits s c = absurd c
    by_doing g chosen z does.Ends s c = absurd c

    does_so : StaysIn f.0 f.1.locals (leaving lower (outs_in f.0 f.1.locals) (caller_of fr.below)) (doing lower h.thread)
    unfolding fr
    does_so = does_inside program layer k.layered k.linear k.yields h.thread f (framed program (layer + 1) h.thread f h.framed_by)

  pub inside_step : (c : Config Store Running) (m : Move Chosen) (d : Config Store Running) (caller : Running) (f : Proc × Activation) → StandsIn c.threads m.thread caller f → step_of P c m ≡ Some d → OthersSame m.thread c.threads d.threads × GoesTo d.threads m.thread caller f
  inside_step c m d caller f h e =
      let q = made lower store (inside program layer) c m d e in
      let same : q.thread ≡ h.thread = same_Some q.thread h.thread (sym q.there ∙ h.there) in
      let comes = subst (λ (r : Running). Comes lower r (doing lower r) c.store m.chosen q.to) same (comes_so lower store (inside program layer) q.thread c.store m.chosen q.to (doing lower q.thread) q.comes) in
      subst (λ (y : Config Store Running). OthersSame m.thread c.threads y.threads × GoesTo y.threads m.thread caller f) (sym q.is)
      (by_doing c.threads m.thread caller f h c.store m.chosen q.to (doing lower h.thread) (does_so c.threads m.thread caller f h) comes)

  -- ---- behind the frame

  -- a thread behind a call in which its caller stood is in no frame of the layer
  pub behind_none : (caller : Running) (frame : Activation) (place : ℕ) → doing lower caller ≡ does.Enters frame place → (D : Doing) (outs : List Value) → frame_of_layer program (layer + 1) (behind caller D outs) ≡ None
  behind_none caller frame place e D outs = by_doing D (enters_outside program layer k.layered k.linear k.yields caller frame place e)
    where
      by_doing : (E : Doing) → frame_of_layer program (layer + 1) caller ≡ None → frame_of_layer program (layer + 1) (behind caller E outs) ≡ None
      by_doing (does.Calls names locals results next action args) n = goes_none program layer k.layered caller.state (with_results names locals results outs) next n
      by_doing does.Fails n = n
      by_doing does.Waits n = n
      by_doing does.Ends n = n
      by_doing (does.Goes locals next) n = n
      by_doing (does.Enters other next) n = n
      by_doing (does.Leaves o) n = n
      by_doing (does.Spawns other next) n = n

  pub none_inside : (threads : List Running) (t : ℕ) (r : Running) → slice_get threads t ≡ Some r → frame_of_layer program (layer + 1) r ≡ None → inside_in P (slice_get threads t) ≡ false
  none_inside threads t r e n = ap (inside_in P) e ∙ ap (λ (o : Option (Proc × Activation)). is_some (block_in o)) n

  -- ---- along a block

  pub opens : (challenged : Challenged) (ms : List (Move Chosen)) (t : ℕ) (c e : Config Store Running) (caller : Running) (f : Proc × Activation) → StandsIn c.threads t caller f → Opens (layer_system program layer store challenged) t ms c e
      → OthersSame t c.threads e.threads × ((g : Proc × Activation) × StandsIn e.threads t caller g)
  opens challenged [] t c e caller f h o = subst (λ (y : Config Store Running). OthersSame t c.threads y.threads × ((g : Proc × Activation) × StandsIn y.threads t caller g)) o ((λ u n. refl), (f, h))
  opens challenged (m ∷ ms) t c e caller f h o = go (inside_step c m o.0 caller f (subst (λ (u : ℕ). StandsIn c.threads u caller f) (sym o.1) h) o.2) (λ g i. opens challenged ms t o.0 e caller g i o.4)
    where
      go : OthersSame m.thread c.threads o.0.threads × GoesTo o.0.threads m.thread caller f → ((g : Proc × Activation) → StandsIn o.0.threads t caller g → OthersSame t o.0.threads e.threads × ((g : Proc × Activation) × StandsIn e.threads t caller g))
          → OthersSame t c.threads e.threads × ((g : Proc × Activation) × StandsIn e.threads t caller g)
      go (same, inl s) ih =
          let rest = ih s.0 (subst (λ (u : ℕ). StandsIn o.0.threads u caller s.0) o.1 s.1) in
          ((λ u n. rest.0 u n ∙ same u (λ q. n (q ∙ o.1))), rest.1)
      go (same, inr s) ih =
          let out = none_inside o.0.threads m.thread (behind caller (doing upper caller) (outs_in f.0 f.1.locals)) s (behind_none caller (new_frame f.1.procedure f.0 h.called.args) h.called.place h.called.enters (doing upper caller) (outs_in f.0 f.1.locals)) in
          absurd (true≢false (sym o.3 ∙ subst (λ (u : ℕ). inside_in P (slice_get o.0.threads u) ≡ false) o.1 out))

  -- ---- how a thread comes into a frame

  abbrev top_in : State → Activation → Activation
  top_in (Inside below frame) other = frame
  top_in _ other = other

  moves_none : (state : State) (other : Running) (place : ℕ) → framed_state program (layer + 1) state ≡ None → framed_state program (layer + 1) (state_after state (change.Spawns other place)) ≡ None
  moves_none Before other place e = refl
  moves_none (Inside below frame) other place e = framed_same program layer k.layered frame frame.locals place e
  moves_none After other place e = refl

  entered_top : (state : State) (frame top : Activation) (place : ℕ) (below : List Activation) → state_after state (change.Enters frame place) ≡ Inside below top → frame ≡ top
  entered_top Before frame top place below e = ap (λ (st : State). top_in st frame) e
  entered_top (Inside under waiting) frame top place below e = ap (λ (st : State). top_in st frame) e
  entered_top After frame top place below e = absurd cc

  module _ (c : Config Store Running) (m : Move Chosen) (d : Config Store Running) (low : Running) (f : Proc × Activation) (there : slice_get c.threads m.thread ≡ Some low) (sorted : ThreadIsSorted lower low) (stacked : IsStacked lower low) (of : IsOf lower (record { store = c.store; threads = c.threads }))
      (none : frame_of_layer program (layer + 1) low ≡ None) (e : step_of P c m ≡ Some d) (later : frame_at program (layer + 1) d.threads m.thread ≡ Some f) where
    abbrev q : Made lower store (inside program layer) c m d
    q = made lower store (inside program layer) c m d e

    comes : Comes lower low (doing lower low) c.store m.chosen q.to
    comes = subst (λ (r : Running). Comes lower r (doing lower r) c.store m.chosen q.to) (same_Some q.thread low (sym q.there ∙ there)) (comes_so lower store (inside program layer) q.thread c.store m.chosen q.to (doing lower q.thread) q.comes)

    -- what the thread is behind the step, where none is spawned
    framed_later : (r : Running) (g : Store) → q.to ≡ (g, r, []) → frame_of_layer program (layer + 1) r ≡ Some f
    framed_later r g is =
        sym (ap (frame_in program (layer + 1)) (set_there c.threads m.thread low r there))
        ∙ (ap (λ (z : Outcome Store Running). frame_at program (layer + 1) (slice_set c.threads m.thread z.1 ++ z.2) m.thread) (sym is)
        ∙ (ap (λ (y : Config Store Running). frame_at program (layer + 1) y.threads m.thread) (sym q.is) ∙ later))

    never : (r : Running) (g : Store) → q.to ≡ (g, r, []) → frame_of_layer program (layer + 1) r ≡ None → ⊥
    never r g is n = none-some f (sym n ∙ framed_later r g is)

    by_entry : (frame : Activation) (place : ℕ) → doing lower low ≡ does.Enters frame place → q.to ≡ (c.store, thread_after low (change.Enters frame place), []) → OthersSame m.thread c.threads d.threads × StandsIn d.threads m.thread low f
    by_entry frame place form is =
        let new = thread_after low (change.Enters frame place) in
        let later_is = framed_later new c.store is in
        let i = framed program (layer + 1) new f later_is in
        let top : frame ≡ f.1 = entered_top low.state frame f.1 place i.below i.state in
        let h = instead program layer k.layered low frame place f.0 form (ap (λ (a : Activation). slice_get program.procs a.procedure) top ∙ i.there) i.layered in
        let enters : does.Enters frame place ≡ does.Enters (new_frame h.number h.proc h.args) h.place = sym form ∙ h.enters in
        let framed_new = enters_framed program layer low (new_frame h.number h.proc h.args) h.proc h.place h.enters h.there h.layered in
        let same : new ≡ thread_after low (change.Enters (new_frame h.number h.proc h.args) h.place) = ap (λ (D : Doing). entered_thread D) enters in
        let f_is : (h.proc, new_frame h.number h.proc h.args) ≡ f = same_Some (h.proc, new_frame h.number h.proc h.args) f (sym framed_new ∙ (ap (frame_of_layer program (layer + 1)) (sym same) ∙ later_is)) in
        let stands : StandsIn (slice_set c.threads m.thread new ++ []) m.thread low (h.proc, new_frame h.number h.proc h.args) = record {
          thread = new;
          there = set_there c.threads m.thread low new there;
          framed_by = later_is ∙ ap (λ (g : Proc × Activation). Some g) (sym f_is);
          called = record {
            args = h.args;
            place = h.place;
            enters = h.enters;
            inputs = entered_inputs lower (layered_is_plain program k.layered layer) c.store of.store low sorted stacked h.number h.proc h.args h.place h.there h.enters;
            stands = same;
          };
        } in
        subst (λ (y : Config Store Running). OthersSame m.thread c.threads y.threads × StandsIn y.threads m.thread low f) (sym q.is)
        (subst (λ (z : Outcome Store Running). OthersSame m.thread c.threads (slice_set c.threads m.thread z.1 ++ z.2) × StandsIn (slice_set c.threads m.thread z.1 ++ z.2) m.thread low f) (sym is)
        (set_others c.threads m.thread new, subst (StandsIn (slice_set c.threads m.thread new ++ []) m.thread low) f_is stands))
      where
        entered_thread : Doing → Running
        entered_thread (does.Enters a p) = thread_after low (change.Enters a p)
        entered_thread _ = low

    -- with one that is spawned
    spawn_later : (r other : Running) (g : Store) → q.to ≡ (g, r, other ∷ []) → frame_of_layer program (layer + 1) r ≡ None → ⊥
    spawn_later r other g is n =
        none-some f (sym n
        ∙ (sym (ap (frame_in program (layer + 1)) (joined (slice_set c.threads m.thread r) other m.thread r (get_same c.threads m.thread r low there)))
        ∙ (ap (λ (z : Outcome Store Running). frame_at program (layer + 1) (slice_set c.threads m.thread z.1 ++ z.2) m.thread) (sym is)
        ∙ (ap (λ (y : Config Store Running). frame_at program (layer + 1) y.threads m.thread) (sym q.is) ∙ later))))
      where
        joined : (xs : List Running) (new : Running) (i : ℕ) (a : Running) → slice_get xs i ≡ Some a → slice_get (xs ++ new ∷ []) i ≡ Some a
        joined [] new i a h = absurd (none-some a h)
        joined (x ∷ xs) new zero a h = h
        joined (x ∷ xs) new (suc i) a h = joined xs new i a h

    go : (D : Doing) → doing lower low ≡ D → Comes lower low D c.store m.chosen q.to → OthersSame m.thread c.threads d.threads × StandsIn d.threads m.thread low f
    go (does.Goes locals place) form is = absurd (never (thread_after low (change.Goes locals place)) c.store is (goes_none program layer k.layered low.state locals place none))
    go (does.Calls names locals results next action args) form is = absurd (never (thread_after low (change.Goes (with_results names locals results is.0.outs) next)) is.0.to is.1 (goes_none program layer k.layered low.state (with_results names locals results is.0.outs) next none))
    go (does.Leaves o) form is = absurd (never (thread_after low (change.Leaves o)) c.store is (leaves_none program layer k.layered low stacked o form))
    go (does.Spawns other place) form is = absurd (spawn_later (thread_after low (change.Spawns other place)) other c.store is (moves_none low.state other place none))
    go (does.Enters frame place) form is = by_entry frame place form is
    go does.Fails form is = absurd is
    go does.Waits form is = absurd is
    go does.Ends form is = absurd is

    pub first_step : OthersSame m.thread c.threads d.threads × StandsIn d.threads m.thread low f
    first_step = go (doing lower low) refl comes
