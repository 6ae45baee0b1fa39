-- Behind a block run a block, or a step outside the layer's procedures, is followed.
use Rattle.std.proofs.Common.{◌≡◌, ℕ, ◌+◌, true, List, [], ◌∷◌, ◌++◌, map, refl, sym, ap, ◌∙◌, subst, Option, None, Some, slice_get, inl, inr}
use Rattle.std.specs.Prelude.{is_some}
use Rattle.std.proofs.lemmas.Bool.{false≢true}
use Rattle.std.proofs.lemmas.List.{map-append}
use Rattle.civl_bits.specs.declared.value.Value.{Value}
use Rattle.civl_tree.specs.declared.program.Proc.{Proc}
use Rattle.civl_tree.specs.declared.program.Program.{Program}
use Rattle.civl_firing.specs.declared.store.Store.{Store}
use Rattle.civl_meaning.specs.declared.config.Plain.{Plain}
use Rattle.civl_meaning.specs.declared.config.Activation.{Activation}
use Rattle.civl_meaning.specs.declared.config.Config as meaning
use Rattle.civl_meaning.specs.declared.config.Move as plain
use Rattle.civl_meaning.specs.declared.config.Running.{Running}
use Rattle.civl_meaning.specs.Config.{IsOf, ThreadIsSorted, IsStacked}
use Rattle.civl_meaning.specs.Layers.{program_at}
use Rattle.civl_soundness.proofs.Fitting.{all_at}
use Rattle.civl_reduction.specs.interleavings.Runs.{SystemRuns, Opens}
use Rattle.civl_reduction.specs.interleavings.Threads.{Threads, Config, Move, inside_in, stepping_of, step_of}
use Rattle.civl_reduction.specs.exchanges.Interleavings.{Chosen, Call, as_config}
use Rattle.civl_reduction.specs.permissions.Apart.{SpawnsStandInRoots}
use Rattle.civl_reduction.specs.checked.Checked.{IsChecked}
use Rattle.civl_reduction.specs.blocks.Blocks.{frame_of_layer, block_in, inside}
use Rattle.civl_reduction.specs.blocks.Reduces.{Challenged, plain_move, plain_config, layer_threads, layer_system}
use Rattle.civl_reduction.specs.blocks.Cuts.{frame_in, frame_at}
use Rattle.civl_reduction.specs.blocks.Shadow.{Shadowed, seen, shadowed_step, shadowed_from, shadowed_start, shadowed}
use Rattle.civl_reduction.specs.simulation.Meets.{FrameMeets, ThreadMeets, MeetsBeside}
use Rattle.civl_reduction.specs.simulation.Refined.{Sight, sight, sight_before, last_frame, BlockIsRefinedBy}
use Rattle.civl_reduction.proofs.simulation.Followed.Shadows.{shadowed_more, shadowed_append}
use Rattle.civl_reduction.proofs.simulation.Followed.Steps.{made}
use Rattle.civl_reduction.proofs.simulation.Followed.Along.{OthersSame, StandsIn, GoesTo, inside_step, opens, first_step}
use Rattle.civl_reduction.proofs.simulation.Followed.Ending.{stands_beside, HowFollowed}
use Rattle.civl_reduction.proofs.simulation.Followed.Outside.{same_beside, outside_follows}
use Rattle.civl_reduction.proofs.simulation.Followed.Blocks.{to_leads, met_in, met_left}

module _ (program : Program) (layer : ℕ) (store : Store) (k : IsChecked program layer store) (roots : SpawnsStandInRoots program) (challenged : Challenged) where
  abbrev lower : Plain
  lower = program_at program layer

  abbrev P : Threads Store Running Call Chosen (List Value)
  P = layer_threads program layer store

  abbrev Q : Threads Store Running Call Chosen (List Value)
  Q = layer_threads program (layer + 1) store

  -- a thread that stands inside a block stands in a frame
  frame_there : (o : Option Running) → inside_in P o ≡ true → (f : Proc × Activation) × (frame_in program (layer + 1) o ≡ Some f)
  frame_there None e = absurd (false≢true e)
  frame_there (Some r) e = go (frame_of_layer program (layer + 1) r) refl e
    where
      go : (p : Option (Proc × Activation)) → frame_of_layer program (layer + 1) r ≡ p → is_some (block_in p) ≡ true → (f : Proc × Activation) × (frame_of_layer program (layer + 1) r ≡ Some f)
      go None q h = absurd (false≢true h)
      go (Some f) q h = (f, q)

  module _ (s : Shadowed) (x : meaning.Config) (meets : MeetsBeside program layer s x) (m : Move Chosen) (c d : Config Store Running) (leads : s.config ≡ plain_config c) (picked : Proc × Activation → List Value → Type 0) where
    abbrev Follows : List (Move Chosen) → Type 0
    Follows ms =
        (ns : List (Move Chosen)) × (y : Config Store Running) × SystemRuns (stepping_of Q) ns (as_config x) y
        × MeetsBeside program layer (shadowed_step program layer (shadowed_from program layer (map plain_move ms) s) (plain_move m)) (plain_config y)
        × HowFollowed program layer store k roots picked s (shadowed_from program layer (map plain_move ms) s) (shadowed_step program layer (shadowed_from program layer (map plain_move ms) s) (plain_move m)) m ns

    abbrev Refined : List (Move Chosen) → Type 0
    Refined ms = BlockIsRefinedBy picked program layer s (shadowed_from program layer (map plain_move ms) s) (shadowed_step program layer (shadowed_from program layer (map plain_move ms) s) (plain_move m)) m.thread

    there_s : (low : Running) → slice_get c.threads m.thread ≡ Some low → slice_get s.config.threads m.thread ≡ Some low
    there_s low e = ap (λ (y : meaning.Config). slice_get y.threads m.thread) leads ∙ e

    frame_s : (low : Running) → slice_get c.threads m.thread ≡ Some low → frame_at program (layer + 1) s.config.threads m.thread ≡ frame_of_layer program (layer + 1) low
    frame_s low e = ap (frame_in program (layer + 1)) (there_s low e)

    sorted_s : (low : Running) → slice_get c.threads m.thread ≡ Some low → ThreadIsSorted lower low
    sorted_s low e = all_at (ThreadIsSorted lower) s.config.threads m.thread low (there_s low e) meets.of_lower.sorted

    stacked_s : (low : Running) → slice_get c.threads m.thread ≡ Some low → IsStacked lower low
    stacked_s low e = all_at (IsStacked lower) s.config.threads m.thread low (there_s low e) meets.of_lower.stacked

    of_c : IsOf lower (plain_config c)
    of_c = subst (IsOf lower) leads meets.of_lower

    meets_low : (low : Running) → slice_get c.threads m.thread ≡ Some low → ThreadMeets program layer (s.shadow.done m.thread) (Some low) (slice_get x.threads m.thread)
    meets_low low e = subst (λ (o : Option Running). ThreadMeets program layer (s.shadow.done m.thread) o (slice_get x.threads m.thread)) (there_s low e) (meets.threads m.thread)

    -- the last step of a block, from a configuration in which the thread stands in its frame
    last_step : (ms : List (Move Chosen)) (e : Config Store Running) (o : Opens (layer_system program layer store challenged) m.thread ms c e) (step : step_of P e m ≡ Some d) (caller : Running) (before : Sight) (store_is : before.store ≡ seen program layer s)
        → slice_get x.threads m.thread ≡ Some (stands_beside program layer store k roots caller before) → before ≡ sight_before program layer s m.thread (frame_at program (layer + 1) s.config.threads m.thread)
        → OthersSame m.thread c.threads e.threads → (g : Proc × Activation) → StandsIn program layer store k e.threads m.thread caller g → Refined ms → Follows ms
    last_step ms e o step caller before store_is high is others g i r = go (inside_step program layer store k e m d caller g i step)
      where
        go : OthersSame m.thread e.threads d.threads × GoesTo program layer store k d.threads m.thread caller g → Follows ms
        go (same, inl h) = met_in program layer store k roots challenged s x meets ms m c e d leads o step (λ u n. same u n ∙ others u n) picked r caller before store_is high is h.0 h.1
        go (same, inr h) = met_left program layer store k roots challenged s x meets ms m c e d leads o step (λ u n. same u n ∙ others u n) picked r caller before store_is high is g i h

    -- from a yield
    from_frame : (ms : List (Move Chosen)) (e : Config Store Running) → Opens (layer_system program layer store challenged) m.thread ms c e → step_of P e m ≡ Some d → (low : Running) → slice_get c.threads m.thread ≡ Some low → (f : Proc × Activation) → frame_of_layer program (layer + 1) low ≡ Some f → Refined ms → Follows ms
    from_frame ms e o step low at f q r = go (slice_get x.threads m.thread) refl (meets_low low at)
      where
        by_frame : (high : Running) → slice_get x.threads m.thread ≡ Some high → FrameMeets program layer (s.shadow.done m.thread) low (Some f) high → Follows ms
        by_frame high there w =
            let along = opens program layer store k challenged ms m.thread c e w.0 f (record { thread = low; there = at; framed_by = q; called = w.1 }) o in
            last_step ms e o step w.0 (sight program layer s m.thread f) refl (there ∙ ap (λ (p : Running). Some p) w.2) (ap (sight_before program layer s m.thread) (sym (frame_s low at ∙ q))) along.0 along.1.0 along.1.1 r

        go : (p : Option Running) → slice_get x.threads m.thread ≡ p → ThreadMeets program layer (s.shadow.done m.thread) (Some low) p → Follows ms
        go None there h = absurd h
        go (Some high) there h = by_frame high there (subst (λ (p : Option (Proc × Activation)). FrameMeets program layer (s.shadow.done m.thread) low p high) q h)

    -- from before a call: its sight
    abbrev fresh : Sight
    fresh = sight_before program layer s m.thread None

    fresh_is : (low : Running) → slice_get c.threads m.thread ≡ Some low → frame_of_layer program (layer + 1) low ≡ None → fresh ≡ sight_before program layer s m.thread (frame_at program (layer + 1) s.config.threads m.thread)
    fresh_is low at none = ap (sight_before program layer s m.thread) (sym (frame_s low at ∙ none))

    beside_low : (low : Running) → slice_get c.threads m.thread ≡ Some low → frame_of_layer program (layer + 1) low ≡ None → slice_get x.threads m.thread ≡ Some low
    beside_low low at none = same_beside program layer store k roots (s.shadow.done m.thread) low (slice_get x.threads m.thread) (meets_low low at) none

    -- the call, and the block behind it
    from_call : (n : Move Chosen) (ms : List (Move Chosen)) (e : Config Store Running) → (o : Opens (layer_system program layer store challenged) m.thread (n ∷ ms) c e) → step_of P e m ≡ Some d → (low : Running) → slice_get c.threads m.thread ≡ Some low → frame_of_layer program (layer + 1) low ≡ None → Refined (n ∷ ms) → Follows (n ∷ ms)
    from_call n ms e o step low at none r =
        let f = frame_there (slice_get o.0.threads m.thread) o.3 in
        let there = ap (slice_get c.threads) o.1 ∙ at in
        let one = first_step program layer store k c n o.0 low f.0 there (sorted_s low at) (stacked_s low at) of_c none o.2 (ap (frame_at program (layer + 1) o.0.threads) o.1 ∙ f.1) in
        let along = opens program layer store k challenged ms m.thread o.0 e low f.0 (subst (λ (u : ℕ). StandsIn program layer store k o.0.threads u low f.0) o.1 one.1) o.4 in
        last_step (n ∷ ms) e o step low fresh refl (beside_low low at none) (fresh_is low at none) (λ u w. along.0 u w ∙ one.0 u (λ q. w (q ∙ o.1))) along.1.0 along.1.1 r

    -- one step: a call whose block ends with it, or a step outside
    from_outside : step_of P c m ≡ Some d → (low : Running) → slice_get c.threads m.thread ≡ Some low → frame_of_layer program (layer + 1) low ≡ None → Refined [] → Follows []
    from_outside step low at none r = go (frame_at program (layer + 1) d.threads m.thread) refl
      where
        go : (p : Option (Proc × Activation)) → frame_at program (layer + 1) d.threads m.thread ≡ p → Follows []
        go None q =
            let out = outside_follows program layer store k roots s x m d meets (subst (λ (y : meaning.Config). step_of P (as_config y) m ≡ Some d) (sym leads) step) (frame_s low at ∙ none) q in
            let none_to = ap (λ (y : meaning.Config). frame_at program (layer + 1) y.threads m.thread) (to_leads program layer store k roots challenged s x meets [] m c c d leads refl step) ∙ q in
            (m ∷ [], out.0, (out.0, out.1, refl), out.2, inl (ap (λ (p : Option (Proc × Activation)). last_frame p (frame_at program (layer + 1) s.config.threads m.thread)) none_to ∙ (frame_s low at ∙ none), refl))
        go (Some f) q =
            let one = first_step program layer store k c m d low f at (sorted_s low at) (stacked_s low at) of_c none step q in
            met_in program layer store k roots challenged s x meets [] m c c d leads refl step one.0 picked r low fresh refl (beside_low low at none) (fresh_is low at none) f one.1

    pub all_follow : (ms : List (Move Chosen)) (e : Config Store Running) → Opens (layer_system program layer store challenged) m.thread ms c e → step_of P e m ≡ Some d → Refined ms → Follows ms
    all_follow ms e o step r = by_first (first ms e o step) ms e o step r
      where
        first : (ms : List (Move Chosen)) (e : Config Store Running) → Opens (layer_system program layer store challenged) m.thread ms c e → step_of P e m ≡ Some d → (low : Running) × (slice_get c.threads m.thread ≡ Some low)
        first [] e o step = let q = made lower store (inside program layer) e m d step in (q.thread, ap (λ (y : Config Store Running). slice_get y.threads m.thread) o ∙ q.there)
        first (n ∷ ms) e o step = let q = made lower store (inside program layer) c n o.0 o.2 in (q.thread, ap (slice_get c.threads) (sym o.1) ∙ q.there)

        by_place : (low : Running) → slice_get c.threads m.thread ≡ Some low → frame_of_layer program (layer + 1) low ≡ None → (ms : List (Move Chosen)) (e : Config Store Running) → Opens (layer_system program layer store challenged) m.thread ms c e → step_of P e m ≡ Some d → Refined ms → Follows ms
        by_place low at none [] e o step r = from_outside (subst (λ (y : Config Store Running). step_of P y m ≡ Some d) (sym o) step) low at none r
        by_place low at none (n ∷ ms) e o step r = from_call n ms e o step low at none r

        by_first : (low : Running) × (slice_get c.threads m.thread ≡ Some low) → (ms : List (Move Chosen)) (e : Config Store Running) → Opens (layer_system program layer store challenged) m.thread ms c e → step_of P e m ≡ Some d → Refined ms → Follows ms
        by_first l ms e o step r = go (frame_of_layer program (layer + 1) l.0) refl
          where
            go : (p : Option (Proc × Activation)) → frame_of_layer program (layer + 1) l.0 ≡ p → Follows ms
            go None q = by_place l.0 l.1 q ms e o step r
            go (Some f) q = from_frame ms e o step l.0 l.1 f q r

-- the shadows along the moves
pub block_shadows : (program : Program) (layer : ℕ) (store : Store) (ps ms : List (Move Chosen)) → shadowed program layer store (map plain_move (ps ++ ms)) ≡ shadowed_from program layer (map plain_move ms) (shadowed program layer store (map plain_move ps))
block_shadows program layer store ps ms =
    ap (λ (l : List plain.Move). shadowed_from program layer l (shadowed_start program layer store)) (map-append plain_move ps ms)
    ∙ shadowed_append program layer (map plain_move ps) (map plain_move ms) (shadowed_start program layer store)

pub last_shadow : (program : Program) (layer : ℕ) (ms : List (Move Chosen)) (m : Move Chosen) (s : Shadowed) → shadowed_from program layer (map plain_move (ms ++ m ∷ [])) s ≡ shadowed_step program layer (shadowed_from program layer (map plain_move ms) s) (plain_move m)
last_shadow program layer ms m s =
    ap (λ (l : List plain.Move). shadowed_from program layer l s) (map-append plain_move ms (m ∷ []))
    ∙ shadowed_more program layer (map plain_move ms) (plain_move m) s
