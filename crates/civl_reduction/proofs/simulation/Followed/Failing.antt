-- Where a block run ends failing or challenged, the configuration beside it fails.
use Rattle.std.proofs.Common.{◌≡◌, ℕ, ◌+◌, arith, Bool, true, false, not, ◌&&◌, List, [], ◌∷◌, refl, sym, ap, ◌∙◌, subst, add-one, Option, None, Some, slice_get, inl, inr}
use Rattle.std.specs.Prelude.{if◌then◌else◌}
use Rattle.std.specs.Option.{option_map_or}
use Rattle.std.proofs.lemmas.Bool.{false≢true, true≢false, or_cases, and_parts, not-true}
use Rattle.std.proofs.lemmas.Option.{none-some, same_Some}
use Rattle.civl_bits.specs.declared.value.Value.{Value}
use Rattle.civl_tree.specs.declared.action.Action.{Action}
use Rattle.civl_tree.specs.declared.program.Proc.{Proc}
use Rattle.civl_tree.specs.declared.program.Program.{Program}
use Rattle.civl_firing.specs.declared.store.Store.{Store}
use Rattle.civl_firing.specs.Fired.{gate_holds}
use Rattle.civl_meaning.specs.declared.config.Plain.{Plain}
use Rattle.civl_meaning.specs.declared.config.Activation.{Activation}
use Rattle.civl_meaning.specs.declared.config.Config as meaning
use Rattle.civl_meaning.specs.declared.config.Running.{Running}
use Rattle.civl_meaning.specs.Change.{new_frame, Doing, doing}
use Rattle.civl_meaning.specs.Config.{ThreadIsSorted, IsStacked}
use Rattle.civl_meaning.specs.Layers.{program_at}
use Rattle.civl_layers.proofs.PlainPrograms.{layered_is_plain}
use Rattle.civl_soundness.proofs.Fitting.{all_at}
use Rattle.civl_conditions.specs.Steps.{has_layer}
use Rattle.civl_conditions.specs.Assumed.{refined_action, inputs_of}
use Rattle.civl_reduction.specs.interleavings.Systems.{Failing}
use Rattle.civl_reduction.specs.interleavings.Threads.{Threads, stepping_of, doing_fails, fails_in}
use Rattle.civl_meaning.specs.Change as does
use Rattle.civl_reduction.specs.exchanges.Interleavings.{Chosen, Call, whole, as_config}
use Rattle.civl_reduction.specs.permissions.Apart.{SpawnsStandInRoots}
use Rattle.civl_reduction.specs.checked.Checked.{IsChecked}
use Rattle.civl_reduction.specs.blocks.Blocks.{framed_in, frame_of_layer, at_yield, rest_of}
use Rattle.civl_reduction.specs.blocks.Reduces.{layer_threads}
use Rattle.civl_reduction.specs.blocks.Shadow.{Shadowed, seen}
use Rattle.civl_reduction.specs.blocks.Challenged.{allows, refuses, call_challenged, frame_challenged, thread_challenged, some_challenged, is_challenged}
use Rattle.civl_reduction.proofs.blocks.Merged.Merging.{actions_act_as_there}
use Rattle.civl_reduction.specs.simulation.Meets.{FrameMeets, ThreadMeets, MeetsBeside}
use Rattle.civl_reduction.proofs.simulation.Meets.Meaning.{threads_do_alike}
use Rattle.civl_reduction.proofs.simulation.Meets.Above.{instead, Instead, called_instead}
use Rattle.civl_reduction.proofs.simulation.Meets.Frames.{framed, enters_outside}
use Rattle.civl_reduction.proofs.simulation.Followed.Acting.{same_gate}
use Rattle.civl_reduction.proofs.simulation.Followed.Known.{Known, does_known}
use Rattle.civl_reduction.proofs.simulation.Followed.Fitting.{entered_inputs}
use Rattle.civl_reduction.proofs.simulation.Followed.Outside.{same_beside, calls_there, within_lower, within_upper}

module _ (program : Program) (layer : ℕ) (store : Store) (k : IsChecked program layer store) (roots : SpawnsStandInRoots program) where
  abbrev lower : Plain
  lower = program_at program layer

  abbrev upper : Plain
  upper = program_at program (layer + 1)

  abbrev P : Threads Store Running Call Chosen (List Value)
  P = layer_threads program layer store

  abbrev Q : Threads Store Running Call Chosen (List Value)
  Q = layer_threads program (layer + 1) store

  module _ (s : Shadowed) (x : meaning.Config) (meets : MeetsBeside program layer s x) where
    fails_there : (t : ℕ) (r : Running) → slice_get x.threads t ≡ Some r → doing_fails Q (whole r (doing upper r)) x.store ≡ true → Failing (stepping_of Q) (as_config x)
    fails_there t r at e = (t, ap (fails_in Q x.store) at ∙ e)

    -- a thread of the upper program before a call whose gate is false where the run's store has the shadow's values
    gate_fails : (t : ℕ) (r : Running) → slice_get x.threads t ≡ Some r → (f : Proc × Activation) → Instead program layer f r → refuses program (seen program layer s) (Some f) ≡ true → Failing (stepping_of Q) (as_config x)
    gate_fails t r at f i e =
        let inputs = inputs_of f.0 f.1.locals in
        let known : Known program (does.Calls i.names i.locals i.results i.next i.action inputs) = subst (Known program) i.calls (does_known upper r) in
        let there = calls_there program layer store k roots (layer + 1) (within_upper program layer store k roots) x meets.of_upper t r at i.names i.locals i.results i.next i.action inputs i.calls in
        let held : gate_holds program.globals (seen program layer s) i.action inputs ≡ false =
        ap (λ (o : Option Action). option_map_or (λ a. gate_holds program.globals (seen program layer s) a inputs) o false) (sym i.refined) ∙ not-true (allows program (seen program layer s) f.0 f.1.locals) e in
        let gate : gate_holds program.globals x.store i.action inputs ≡ false = sym (same_gate program layer k.layered known.0 i.action known.1 there (seen program layer s) x.store meets.stores inputs) ∙ held in
        fails_there t r at (ap (λ (D : Doing). doing_fails Q (whole r D) x.store) i.calls ∙ ap not gate)

    -- ---- challenged

    -- before the call
    call_fails : (t : ℕ) (low : Running) → slice_get s.config.threads t ≡ Some low → (D : Doing) → doing lower low ≡ D → call_challenged program (layer + 1) (seen program layer s) D ≡ true → Failing (stepping_of Q) (as_config x)
    call_fails t low at (does.Enters frame place) e h = go (framed_in (layer + 1) frame (slice_get program.procs frame.procedure)) refl h
      where
        beside : slice_get x.threads t ≡ Some low
        beside =
            same_beside program layer store k roots (s.shadow.done t) low (slice_get x.threads t) (subst (λ (o : Option Running). ThreadMeets program layer (s.shadow.done t) o (slice_get x.threads t)) at (meets.threads t))
            (enters_outside program layer k.layered k.linear k.yields low frame place e)

        by_call : (f : Proc × Activation) → slice_get program.procs frame.procedure ≡ Some f.0 → frame ≡ f.1 → has_layer (layer + 1) f.0 ≡ true → refuses program (seen program layer s) (Some f) ≡ true → Failing (stepping_of Q) (as_config x)
        by_call f there same layered r =
            let c = instead program layer k.layered low frame place f.0 e there layered in
            let frames : frame ≡ new_frame c.number c.proc c.args = ap (λ (E : Doing). entered E) (sym e ∙ c.enters) in
            let procs : c.proc ≡ f.0 = same_Some c.proc f.0 (sym c.there ∙ (ap (λ (a : Activation). slice_get program.procs a.procedure) (sym frames) ∙ there)) in
            let args = entered_inputs lower (layered_is_plain program k.layered layer) s.config.store meets.of_lower.store low (all_at (ThreadIsSorted lower) s.config.threads t low at meets.of_lower.sorted) (all_at (IsStacked lower) s.config.threads t low at meets.of_lower.stacked) c.number c.proc c.args c.place c.there c.enters in
            let is : c.args ≡ inputs_of f.0 f.1.locals = sym args ∙ (ap (λ (p : Proc). inputs_of p (new_frame c.number c.proc c.args).locals) procs ∙ ap (λ (a : Activation). inputs_of f.0 a.locals) (sym frames ∙ same)) in
            gate_fails t low beside f (record {
              names = c.names;
              locals = c.locals;
              results = c.results;
              next = c.next;
              action = c.action;
              refined = ap (refined_action program) (sym procs) ∙ c.refined;
              calls = c.calls ∙ ap (λ (vs : List Value). does.Calls c.names c.locals c.results c.next c.action vs) is;
            }) r
          where
            entered : Doing → Activation
            entered (does.Enters a p) = a
            entered _ = frame

        go : (o : Option (Proc × Activation)) → framed_in (layer + 1) frame (slice_get program.procs frame.procedure) ≡ o → refuses program (seen program layer s) o ≡ true → Failing (stepping_of Q) (as_config x)
        go None q r = absurd (false≢true r)
        go (Some f) q r = by_proc (slice_get program.procs frame.procedure) refl q
          where
            by_proc : (p : Option Proc) → slice_get program.procs frame.procedure ≡ p → framed_in (layer + 1) frame p ≡ Some f → Failing (stepping_of Q) (as_config x)
            by_proc None there u = absurd (none-some f u)
            by_proc (Some proc) there u = by_layer (has_layer (layer + 1) proc) refl u
              where
                by_layer : (b : Bool) → has_layer (layer + 1) proc ≡ b → if◌then◌else◌ {A = Option (Proc × Activation)} b (Some (proc, frame)) None ≡ Some f → Failing (stepping_of Q) (as_config x)
                by_layer false l v = absurd (none-some f v)
                by_layer true l v =
                    let is : (proc, frame) ≡ f = same_Some (proc, frame) f v in
                    by_call f (there ∙ ap (λ (g : Proc × Activation). Some g.0) is) (ap (λ (g : Proc × Activation). g.1) is) (ap (λ (g : Proc × Activation). has_layer (layer + 1) g.0) (sym is) ∙ l) r
    call_fails t low at does.Fails e h = absurd (false≢true h)
    call_fails t low at does.Waits e h = absurd (false≢true h)
    call_fails t low at does.Ends e h = absurd (false≢true h)
    call_fails t low at (does.Goes locals place) e h = absurd (false≢true h)
    call_fails t low at (does.Leaves o) e h = absurd (false≢true h)
    call_fails t low at (does.Spawns other place) e h = absurd (false≢true h)
    call_fails t low at (does.Calls names locals results next action args) e h = absurd (false≢true h)

    -- at the beginning of a block
    frame_fails : (t : ℕ) (low : Running) → slice_get s.config.threads t ≡ Some low → (o : Option (Proc × Activation)) → frame_of_layer program (layer + 1) low ≡ o → frame_challenged program (seen program layer s) (s.shadow.done t) o ≡ true → Failing (stepping_of Q) (as_config x)
    frame_fails t low at None e h = absurd (false≢true h)
    frame_fails t low at (Some f) e h = go (slice_get x.threads t) refl (subst (λ (o : Option Running). ThreadMeets program layer (s.shadow.done t) o (slice_get x.threads t)) at (meets.threads t))
      where
        parts : (not (s.shadow.done t) ≡ true) × ((at_yield (rest_of f) && refuses program (seen program layer s) (Some f)) ≡ true)
        parts = and_parts (not (s.shadow.done t)) (at_yield (rest_of f) && refuses program (seen program layer s) (Some f)) h

        refused : refuses program (seen program layer s) (Some f) ≡ true
        refused = (and_parts (at_yield (rest_of f)) (refuses program (seen program layer s) (Some f)) parts.1).1

        by_frame : (high : Running) → slice_get x.threads t ≡ Some high → (d : Bool) → s.shadow.done t ≡ d → d ≡ false → FrameMeets program layer d low (Some f) high → Failing (stepping_of Q) (as_config x)
        by_frame high there true q not_done m = absurd (true≢false not_done)
        by_frame high there false q not_done m =
            let i = framed program (layer + 1) low f e in
            gate_fails t m.0 (there ∙ ap (λ (r : Running). Some r) m.2) f (called_instead program layer k.layered f low m.0 i.there i.layered m.1).0 refused

        go : (o : Option Running) → slice_get x.threads t ≡ o → ThreadMeets program layer (s.shadow.done t) (Some low) o → Failing (stepping_of Q) (as_config x)
        go None there m = absurd m
        go (Some high) there m = by_frame high there (s.shadow.done t) refl (not-true (s.shadow.done t) parts.0) (subst (λ (p : Option (Proc × Activation)). FrameMeets program layer (s.shadow.done t) low p high) e m)

    some_fails : (base : ℕ) (rest : List Running) → ((i : ℕ) (r : Running) → slice_get rest i ≡ Some r → slice_get s.config.threads (base + i) ≡ Some r) → some_challenged program layer (seen program layer s) s.shadow.done base rest ≡ true → Failing (stepping_of Q) (as_config x)
    some_fails base [] there e = absurd (false≢true e)
    some_fails base (low ∷ rest) there e = elim (or_cases (thread_challenged program layer (seen program layer s) (s.shadow.done base) low) (some_challenged program layer (seen program layer s) s.shadow.done (base + 1) rest) e) [
      | inl h ↦
          elim (or_cases (call_challenged program (layer + 1) (seen program layer s) (doing lower low)) (frame_challenged program (seen program layer s) (s.shadow.done base) (frame_of_layer program (layer + 1) low)) h) [
            | inl c ↦ call_fails base low (first base low rest there) (doing lower low) refl c
            | inr c ↦ frame_fails base low (first base low rest there) (frame_of_layer program (layer + 1) low) refl c
          ]
      | inr h ↦ some_fails (base + 1) rest (λ i r q. later base low rest there i r q) h
    ]
      where
        first : (base : ℕ) (low : Running) (rest : List Running) → ((i : ℕ) (r : Running) → slice_get (low ∷ rest) i ≡ Some r → slice_get s.config.threads (base + i) ≡ Some r) → slice_get s.config.threads base ≡ Some low
        first base low rest there = let n : base + 0 ≡ base = omega arith in subst (λ (j : ℕ). slice_get s.config.threads j ≡ Some low) n (there 0 low refl)

        later : (base : ℕ) (low : Running) (rest : List Running) → ((i : ℕ) (r : Running) → slice_get (low ∷ rest) i ≡ Some r → slice_get s.config.threads (base + i) ≡ Some r) → (i : ℕ) (r : Running) → slice_get rest i ≡ Some r → slice_get s.config.threads (base + 1 + i) ≡ Some r
        later base low rest there i r q = let n : base + (i + 1) ≡ base + 1 + i = omega arith in subst (λ (j : ℕ). slice_get s.config.threads j ≡ Some r) n (there (i + 1) r (ap (slice_get (low ∷ rest)) (add-one i) ∙ q))

    pub challenged_fail : is_challenged program layer s ≡ true → Failing (stepping_of Q) (as_config x)
    challenged_fail e = some_fails 0 s.config.threads (λ i r q. ap (slice_get s.config.threads) (zero_more i) ∙ q) e
      where
        zero_more : (i : ℕ) → 0 + i ≡ i
        zero_more i = omega arith

    -- ---- failing

    -- a thread in no frame of the layer that fails, fails beside too
    pub outside_fail : (t : ℕ) (low : Running) → slice_get s.config.threads t ≡ Some low → frame_of_layer program (layer + 1) low ≡ None → doing_fails P (whole low (doing lower low)) s.config.store ≡ true → Failing (stepping_of Q) (as_config x)
    outside_fail t low at none e = elim (threads_do_alike program layer low k.layered) [
      | inl same ↦ fails_there t low beside (ap (λ (D : Doing). doing_fails Q (whole low D) x.store) same ∙ by_doing (doing lower low) refl same (does_known lower low) e)
      | inr c ↦ absurd (false≢true (ap (λ (D : Doing). doing_fails P (whole low D) s.config.store) (sym c.enters) ∙ e))
    ]
      where
        beside : slice_get x.threads t ≡ Some low
        beside = same_beside program layer store k roots (s.shadow.done t) low (slice_get x.threads t) (subst (λ (o : Option Running). ThreadMeets program layer (s.shadow.done t) o (slice_get x.threads t)) at (meets.threads t)) none

        by_doing : (D : Doing) → doing lower low ≡ D → doing upper low ≡ doing lower low → Known program D → doing_fails P (whole low D) s.config.store ≡ true → doing_fails Q (whole low D) x.store ≡ true
        by_doing (does.Calls names locals results next action args) q same known h =
            let low_there = calls_there program layer store k roots layer (within_lower program layer store k roots) s.config meets.of_lower t low at names locals results next action args q in
            let high_there = calls_there program layer store k roots (layer + 1) (within_upper program layer store k roots) x meets.of_upper t low beside names locals results next action args (same ∙ q) in
            let there = actions_act_as_there program layer known.0 s.config.store s.shadow.store action args [] k.layered known.1 low_there meets.of_lower.store meets.fits in
            ap not (sym (same_gate program layer k.layered known.0 action known.1 high_there (seen program layer s) x.store meets.stores args) ∙ there.gate) ∙ h
        by_doing does.Fails q same known h = refl
        by_doing does.Waits q same known h = absurd (false≢true h)
        by_doing does.Ends q same known h = absurd (false≢true h)
        by_doing (does.Goes locals place) q same known h = absurd (false≢true h)
        by_doing (does.Enters frame place) q same known h = absurd (false≢true h)
        by_doing (does.Leaves o) q same known h = absurd (false≢true h)
        by_doing (does.Spawns other place) q same known h = absurd (false≢true h)
