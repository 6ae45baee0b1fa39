-- The blocks of a checked program are refined.
use Rattle.std.proofs.Common.{◌≡◌, ℕ, ◌+◌, Bool, true, false, List, [], ◌∷◌, ◌++◌, map, Option, None, Some, slice_get, is_some, refl, sym, ap, ◌∙◌, subst, inl, inr}
use Rattle.std.specs.Prelude.{if◌then◌else◌}
use Rattle.std.proofs.lemmas.Option.{same_Some, none-some}
use Rattle.std.proofs.lemmas.List.{map-append}
use Rattle.civl_bits.specs.declared.value.Value.{Value}
use Rattle.civl_tree.specs.declared.program.Proc.{Proc}
use Rattle.civl_tree.specs.declared.program.Program.{Program}
use Rattle.civl_firing.specs.declared.store.Store.{Store}
use Rattle.civl_meaning.specs.declared.config.Activation.{Activation}
use Rattle.civl_meaning.specs.declared.config.Plain.{Plain}
use Rattle.civl_meaning.specs.declared.config.Running.{Running}
use Rattle.civl_meaning.specs.declared.config.Stepped.{Stepped}
use Rattle.civl_meaning.specs.declared.config.Stepped.TheVariants.{Moved}
use Rattle.civl_meaning.specs.declared.config.Move as meaning
use Rattle.civl_meaning.specs.declared.config.Config as config
use Rattle.civl_meaning.specs.Rest.{rest_at}
use Rattle.civl_meaning.specs.Step.{start, step_of}
use Rattle.civl_meaning.specs.Run.{RunsTo}
use Rattle.civl_meaning.specs.Failing.{IsMove}
use Rattle.civl_meaning.specs.Layers.{program_at}
use Rattle.civl_reduction.specs.interleavings.Runs.{Staged, begun, goes, ends, MayStep}
use Rattle.civl_reduction.specs.interleavings.Threads.{Config, Move, inside_in}
use Rattle.civl_reduction.specs.interleavings.Threads as threads
use Rattle.civl_reduction.specs.exchanges.Interleavings.{Chosen}
use Rattle.civl_reduction.proofs.exchanges.Exchanging.{steps_back}
use Rattle.civl_reduction.specs.checked.Checked.{IsChecked, ActionsKeepPermissions, SpawnsAreInRoots}
use Rattle.civl_reduction.specs.blocks.Blocks.{at_yield, frame_of_layer, rest_of, block_in, inside}
use Rattle.civl_reduction.specs.blocks.Reduces.{plain_move, plain_config, layer_threads, layer_system}
use Rattle.civl_reduction.specs.staged.Stages.{OneIsInside, StagesAreRuns}
use Rattle.civl_reduction.specs.blocks.Cuts.{frame_in, frame_at, settled}
use Rattle.civl_reduction.specs.blocks.Shadow.{Shadow, course_of, glided, progress_in, shadow_with, Shadowed, before_frame, before_step, after_step, shadowed_step, shadowed_from, shadowed_start, shadowed}
use Rattle.civl_reduction.specs.blocks.Challenged.{challenged}
use Rattle.civl_reduction.specs.staged.Calm.{AllIsCalm}
use Rattle.civl_reduction.proofs.staged.Calm.Outside.{steps_outside_keep_calm}
use Rattle.civl_reduction.specs.staged.Opened.{BlockIsOpen, StandsThere, GoesOn, stepped, IsReached}
use Rattle.civl_reduction.specs.staged.Inside.{Beside, StageIsBeside, StagesAreBeside}
use Rattle.std.proofs.Common.{append_assoc}
use Rattle.std.proofs.lemmas.List.{append-nil}
use Rattle.civl_reduction.specs.interleavings.Runs.{Opens}
use Rattle.civl_conditions.specs.Assumed.{inputs_of}
use Rattle.civl_reduction.proofs.simulation.Refined.Joining.{JoinAnyhow}
use Rattle.civl_reduction.specs.simulation.Refined.{Sight, IsRefined, IsPickedBefore, IsPicked, sight, sight_before, last_frame, BlockIsRefined}
use Rattle.civl_reduction.specs.simulation.Joined.{ConclusionsRefine}
use Rattle.civl_reduction.proofs.staged.Inside.Beside.{inside_frame, outside_frame, unchallenged}
use Rattle.civl_reduction.specs.simulation.Sound.{BlocksAreRefined}
use Rattle.civl_reduction.specs.simulation.Carried.{IsCarried, StepCarries, CallsCarry, OpenBlocksCarry, YieldsCarry, CheckedAreRefined}
use Rattle.civl_reduction.proofs.simulation.Carried.Ending.{yield_refined}
use Rattle.civl_reduction.proofs.simulation.Followed.Shadows.{shadowed_more}

module _ (keep : ActionsKeepPermissions) (in_roots : SpawnsAreInRoots) (stages_are_runs : StagesAreRuns) (beside : StagesAreBeside) (calls : CallsCarry) (open_step : OpenBlocksCarry) (yields_step : YieldsCarry) (conclude : ConclusionsRefine) (join : JoinAnyhow) (program : Program) (layer : ℕ) (store : Store) (checked : IsChecked program layer store) where
  abbrev plain : Plain
  plain = program_at program layer

  -- the same run, where nothing counts as challenged
  bold : {ms : List (Move Chosen)} {o : Option ℕ} {c : Config Store Running} → Staged (layer_system program layer store (challenged program layer store)) ms o c → Staged (layer_system program layer store (λ moves. false)) ms o c
  bold (begun h) = begun refl
  bold (goes m d staged may step inside) = goes m d (bold staged) may step inside
  bold (ends m d staged may step inside h) = ends m d (bold staged) may step inside refl

  reached : {ms : List (Move Chosen)} {o : Option ℕ} {c : Config Store Running} → Staged (layer_system program layer store (λ moves. false)) ms o c → (x : config.Config) → x ≡ plain_config c → IsReached program layer store x
  reached {ms = ms} {o = o} {c = c} staged x e =
      let stage = stages_are_runs program layer store (λ moves. false) ms o c checked staged in
      record { checked = checked; moves = map plain_move ms; are = stage.are_moves; runs = subst (RunsTo (program_at program layer) (map plain_move ms) (start (program_at program layer) store)) (sym e) stage.runs }

  -- what is known of thread u, of which a block began where this was so
  abbrev began : Shadowed → ℕ → Sight
  began from u = sight_before program layer from u (frame_at program (layer + 1) from.config.threads u)

  abbrev picked : Shadowed → ℕ → List Value → Type 0
  picked from u = IsPickedBefore program layer from u (frame_at program (layer + 1) from.config.threads u)

  abbrev Has : Shadowed → List (Move Chosen) → Option ℕ → ℕ → Type 0
  Has from ms None u = shadowed program layer store (map plain_move ms) ≡ from
  Has from ms (Some v) u = (o : BlockIsOpen program layer (shadowed program layer store (map plain_move ms)) u) × StandsThere o × IsCarried (picked from u) (began from u) o

  module _ (ms : List (Move Chosen)) (o : Option ℕ) (c : Config Store Running) (staged : Staged (layer_system program layer store (challenged program layer store)) ms o c) (m : Move Chosen) (d : Config Store Running)
      (may : MayStep o m.thread) (step : threads.step_of (layer_threads program layer store) c m ≡ Some d)
      (from : Shadowed) (has : Has from ms o m.thread) where
    was : StageIsBeside program layer store ms o c
    was = beside program layer store ms o c checked staged

    abbrev s : Shadowed
    s = shadowed program layer store (map plain_move ms)

    abbrev pm : meaning.Move
    pm = plain_move m

    made : step_of (program_at program layer) s.config pm ≡ (Moved, plain_config d)
    made = subst (λ (x : config.Config). step_of (program_at program layer) x pm ≡ (Moved, plain_config d)) (sym was.config_is) (steps_back (program_at program layer) store (inside program layer) (plain_config c) pm m.chosen.1 d step)

    is_move : IsMove pm
    is_move = m.chosen.1

    r : IsReached program layer store s.config
    r = reached (bold staged) s.config was.config_is

    standing : OneIsInside program layer c o
    standing = (stages_are_runs program layer store (challenged program layer store) ms o c checked staged).standing

    -- a thread of the configuration
    frame_then : (t : ℕ) (f : Proc × Activation) → frame_at program (layer + 1) s.config.threads t ≡ Some f → (thread : Running) × (slice_get c.threads t ≡ Some thread) × (frame_of_layer program (layer + 1) thread ≡ Some f)
    frame_then t f e = go (slice_get c.threads t) refl (sym (ap (λ (x : config.Config). frame_at program (layer + 1) x.threads t) was.config_is) ∙ e)
      where
        go : (x : Option Running) → slice_get c.threads t ≡ x → frame_in program (layer + 1) x ≡ Some f → (thread : Running) × (slice_get c.threads t ≡ Some thread) × (frame_of_layer program (layer + 1) thread ≡ Some f)
        go None q h = absurd (none-some f h)
        go (Some x) q h = (x, q, h)

    -- the shadow just before the step
    abbrev g : Shadowed
    g = record { config = s.config; shadow = before_step program layer m.thread s.config s.shadow }

    next_is : shadowed_step program layer s pm ≡ stepped program layer g pm (plain_config d)
    next_is = ap (λ (z : Stepped × config.Config). record { config = z.1; shadow = after_step program layer m.thread s.config z.1 (before_step program layer m.thread s.config s.shadow) }) made

    -- nothing takes effect before a step of a thread that stands at no yield
    still : (x : Option (Proc × Activation)) → frame_at program (layer + 1) s.config.threads m.thread ≡ x → ((f : Proc × Activation) → x ≡ Some f → at_yield (rest_of f) ≡ false) → before_step program layer m.thread s.config s.shadow ≡ s.shadow
    still None e n = ap (before_frame program layer m.thread s.config.store s.shadow) e
    still (Some f) e n = ap (before_frame program layer m.thread s.config.store s.shadow) e ∙ ap (λ (b : Bool). if b then shadow_with s.shadow m.thread (glided (course_of program layer f.0) (settled (rest_of f)) (progress_in program layer m.thread s.config.store s.shadow f.1)) else s.shadow) (n f refl)

    still_next : before_step program layer m.thread s.config s.shadow ≡ s.shadow → stepped program layer s pm (plain_config d) ≡ shadowed_step program layer s pm
    still_next e = ap (λ (h : Shadow). record { config = plain_config d; shadow = after_step program layer m.thread s.config (plain_config d) h }) (sym e) ∙ sym next_is

    -- ---- what the step leaves

    from_open : (x : BlockIsOpen program layer s m.thread) → StandsThere x → IsCarried (picked from m.thread) (began from m.thread) x → OneIsInside program layer c (Some m.thread) → StepCarries (picked from m.thread) program layer (began from m.thread) s.config (shadowed_step program layer s pm) m.thread
    from_open x stands carried one =
        let frame = inside_frame program layer (frame_of_layer program (layer + 1) one.0.thread) one.0.inside_one in
        let its : frame_at program (layer + 1) s.config.threads m.thread ≡ Some frame.0 = ap (λ (y : config.Config). frame_at program (layer + 1) y.threads m.thread) was.config_is ∙ (ap (frame_in program (layer + 1)) one.0.there ∙ frame.1) in
        let same_frame : x.f ≡ frame.0 = same_Some x.f frame.0 (sym (ap (frame_in program (layer + 1)) x.there ∙ x.framed) ∙ its) in
        let on : at_yield (rest_of x.f) ≡ false = ap (λ (y : Proc × Activation). at_yield (rest_of y)) same_frame ∙ frame.2 in
        let goes_on : GoesOn x = ap (λ (p : ℕ). at_yield (rest_at x.f.0.body p)) stands ∙ on in
        subst (λ (z : Shadowed). StepCarries (picked from m.thread) program layer (began from m.thread) s.config z m.thread) (still_next (still (Some frame.0) its (λ f e. ap (λ (y : Proc × Activation). at_yield (rest_of y)) (sym (same_Some frame.0 f e)) ∙ frame.2)))
        (open_step program layer store s pm (plain_config d) r is_move made x goes_on (picked from m.thread) (began from m.thread) carried)

    from_calm : s ≡ from → AllIsCalm program layer s → OneIsInside program layer c None → challenged program layer store (map plain_move ms) ≡ false → StepCarries (picked from m.thread) program layer (began from m.thread) s.config (shadowed_step program layer s pm) m.thread
    from_calm here calm none_inside not_so =
        subst (λ (z : Shadowed). StepCarries (picked z m.thread) program layer (began z m.thread) s.config (shadowed_step program layer s pm) m.thread) here
        (by_frames (frame_at program (layer + 1) s.config.threads m.thread) refl (frame_at program (layer + 1) d.threads m.thread) refl)
      where
        by_frames : (x : Option (Proc × Activation)) → frame_at program (layer + 1) s.config.threads m.thread ≡ x → (y : Option (Proc × Activation)) → frame_at program (layer + 1) d.threads m.thread ≡ y
            → StepCarries (picked s m.thread) program layer (began s m.thread) s.config (shadowed_step program layer s pm) m.thread
        by_frames None e None q = inr (
          ap (λ (z : Shadowed). frame_at program (layer + 1) z.config.threads m.thread) next_is ∙ q,
          (steps_outside_keep_calm keep in_roots program layer store r.moves s pm (plain_config d) checked r.are r.runs is_move made e q calm).fits,
          λ f is. absurd (none-some f (sym e ∙ is)),
        )
        by_frames None e (Some f) q =
            subst (λ (z : Shadowed). StepCarries (picked s m.thread) program layer (began s m.thread) s.config z m.thread) (still_next (still None e (λ f h. absurd (none-some f h))))
            (subst (λ (x : Option (Proc × Activation)). StepCarries (IsPickedBefore program layer s m.thread x) program layer (sight_before program layer s m.thread x) s.config (stepped program layer s pm (plain_config d)) m.thread) (sym e)
            (inl (calls program layer store s pm (plain_config d) f r is_move made calm not_so e q (IsPickedBefore program layer s m.thread None))))
        by_frames (Some f) e y q =
            let t = frame_then m.thread f e in
            let out = none_inside m.thread t.0 t.1 in
            let yields = outside_frame f (sym (ap (λ (z : Option (Proc × Activation)). is_some (block_in z)) t.2) ∙ out) in
            subst (λ (z : Shadowed). StepCarries (picked s m.thread) program layer (began s m.thread) s.config z m.thread) (sym next_is)
            (subst (λ (x : Option (Proc × Activation)). StepCarries (IsPickedBefore program layer s m.thread x) program layer (sight_before program layer s m.thread x) s.config (stepped program layer g pm (plain_config d)) m.thread) (sym e)
            (yields_step program layer store s pm (plain_config d) f r is_move made calm not_so e yields))

    step_carries : StepCarries (picked from m.thread) program layer (began from m.thread) s.config (shadowed_step program layer s pm) m.thread
    step_carries = by_open o refl was.beside standing may has
      where
        by_open : (x : Option ℕ) → o ≡ x → Beside program layer (shadowed program layer store (map plain_move ms)) x → OneIsInside program layer c x → MayStep x m.thread → Has from ms x m.thread
            → StepCarries (picked from m.thread) program layer (began from m.thread) (shadowed program layer store (map plain_move ms)).config (shadowed_step program layer (shadowed program layer store (map plain_move ms)) (plain_move m)) m.thread
        by_open None e b n may here = from_calm here b n (unchallenged program layer store staged e)
        by_open (Some t) e b n may x = from_open x.0 x.1 x.2 (subst (λ (u : ℕ). OneIsInside program layer c (Some u)) (sym may) n)

    -- ---- the moves with this one

    abbrev more : Shadowed
    more = shadowed program layer store (map plain_move (ms ++ m ∷ []))

    more_is : more ≡ shadowed_step program layer s pm
    more_is =
        ap (λ (l : List meaning.Move). shadowed_from program layer l (shadowed_start program layer store)) (map-append plain_move ms (m ∷ []))
        ∙ shadowed_more program layer (map plain_move ms) pm (shadowed_start program layer store)

    more_config : more.config ≡ plain_config d
    more_config = ap (λ (z : Shadowed). z.config) (more_is ∙ next_is)

    carries_more : StepCarries (picked from m.thread) program layer (began from m.thread) s.config more m.thread
    carries_more = subst (λ (z : Shadowed). StepCarries (picked from m.thread) program layer (began from m.thread) s.config z m.thread) (sym more_is) step_carries

    frame_more : frame_at program (layer + 1) more.config.threads m.thread ≡ frame_in program (layer + 1) (slice_get d.threads m.thread)
    frame_more = ap (λ (x : config.Config). frame_at program (layer + 1) x.threads m.thread) more_config

    -- the frame of a thread that is inside
    in_frame : (b : Bool) → inside_in (layer_threads program layer store) (slice_get d.threads m.thread) ≡ b → is_some (block_in (frame_in program (layer + 1) (slice_get d.threads m.thread))) ≡ b
    in_frame b = go (slice_get d.threads m.thread)
      where
        go : (x : Option Running) → inside_in (layer_threads program layer store) x ≡ b → is_some (block_in (frame_in program (layer + 1) x)) ≡ b
        go None h = h
        go (Some x) h = h

    goes_on : inside_in (layer_threads program layer store) (slice_get d.threads m.thread) ≡ true → Has from (ms ++ m ∷ []) (Some m.thread) m.thread
    goes_on inside_one = go carries_more
      where
        go : StepCarries (picked from m.thread) program layer (began from m.thread) s.config (shadowed program layer store (map plain_move (ms ++ m ∷ []))) m.thread → Has from (ms ++ m ∷ []) (Some m.thread) m.thread
        go (inl x) = x
        go (inr x) =
            let f = inside_frame program layer (frame_in program (layer + 1) (slice_get d.threads m.thread)) (in_frame true inside_one) in
            absurd (none-some f.0 (sym x.0 ∙ (frame_more ∙ f.1)))

    ends_refined : inside_in (layer_threads program layer store) (slice_get d.threads m.thread) ≡ false → BlockIsRefined program layer from s (shadowed program layer store (map plain_move (ms ++ m ∷ []))) m.thread
    ends_refined outside_one = go carries_more
      where
        go : StepCarries (picked from m.thread) program layer (began from m.thread) s.config (shadowed program layer store (map plain_move (ms ++ m ∷ []))) m.thread → BlockIsRefined program layer from s (shadowed program layer store (map plain_move (ms ++ m ∷ []))) m.thread
        go (inl x) = record {
          fits = x.0.fits;
          refined = λ f is.
              subst (λ (h : Proc × Activation). IsRefined (IsPicked program layer from more m.thread h) program (layer + 1) h.0 (inputs_of h.0 h.1.locals) (began from m.thread) (sight program layer more m.thread h))
              (same_Some x.0.f f (sym (ap (λ (y : Option (Proc × Activation)). last_frame y (frame_at program (layer + 1) s.config.threads m.thread)) its) ∙ is))
              (yield_refined conclude join keep program layer store more m.thread (reached (ends m d (bold staged) may step outside_one refl) more.config more_config) x.0 (picked from m.thread) (began from m.thread) x.2 x.1 yields);
          exit = λ f none is. absurd (none-some x.0.f (sym none ∙ its));
        }
          where
            its : frame_at program (layer + 1) more.config.threads m.thread ≡ Some x.0.f
            its = ap (frame_in program (layer + 1)) x.0.there ∙ x.0.framed

            yields : at_yield (rest_of x.0.f) ≡ true
            yields = outside_frame x.0.f (sym (ap (λ (y : Option (Proc × Activation)). is_some (block_in y)) (sym (sym its ∙ frame_more))) ∙ in_frame false outside_one)
        go (inr x) = record {
          fits = x.1;
          refined = λ f is. (x.2 f (sym (ap (λ (y : Option (Proc × Activation)). last_frame y (frame_at program (layer + 1) s.config.threads m.thread)) x.0) ∙ is)).0;
          exit = λ f none is. (x.2 f is).1;
        }

  -- ---- the block

  module _ (from : Shadowed) (last : Move Chosen) (before to : Config Store Running) (made : threads.step_of (layer_threads program layer store) before last ≡ Some to) (outside_one : inside_in (layer_threads program layer store) (slice_get to.threads last.thread) ≡ false) where
    abbrev Ends : List (Move Chosen) → List (Move Chosen) → Type 0
    Ends all more = BlockIsRefined program layer from (shadowed program layer store (map plain_move all)) (shadowed program layer store (map plain_move more)) last.thread

    run : (block ms : List (Move Chosen)) (o : Option ℕ) (c : Config Store Running) → Staged (layer_system program layer store (challenged program layer store)) ms o c → MayStep o last.thread → Has from ms o last.thread
        → Opens (layer_system program layer store (challenged program layer store)) last.thread block c before → Ends (ms ++ block) (ms ++ (block ++ last ∷ []))
    run [] ms o c staged may has is =
        subst (λ (all : List (Move Chosen)). Ends all (ms ++ last ∷ [])) (sym (append-nil ms))
        (ends_refined ms o c staged last to may (subst (λ (x : Config Store Running). threads.step_of (layer_threads program layer store) x last ≡ Some to) (sym is) made) from has outside_one)
    run (m ∷ block) ms o c staged may has (d, same, step, inside_one, rest) =
        let may_m : MayStep o m.thread = subst (MayStep o) (sym same) may in
        let in_m : inside_in (layer_threads program layer store) (slice_get d.threads m.thread) ≡ true = ap (λ (u : ℕ). inside_in (layer_threads program layer store) (slice_get d.threads u)) same ∙ inside_one in
        let next = goes_on ms o c staged m d may_m step from (subst (Has from ms o) (sym same) has) in_m in
        let later = run block (ms ++ m ∷ []) (Some m.thread) d (goes m d staged may_m step in_m) (sym same) (subst (Has from (ms ++ m ∷ []) (Some m.thread)) same next) rest in
        subst (λ (all : List (Move Chosen)). Ends all (ms ++ (m ∷ (block ++ last ∷ [])))) (append_assoc ms (m ∷ []) block)
        (subst (λ (all : List (Move Chosen)). Ends ((ms ++ m ∷ []) ++ block) all) (append_assoc ms (m ∷ []) (block ++ last ∷ [])) later)

  pub blocks_refined : BlocksAreRefined program layer store
  blocks_refined moves block last from before to staged opens made outside_one =
      run (shadowed program layer store (map plain_move moves)) last before to made outside_one block moves None from staged tt refl opens

pub checked_are_refined : ActionsKeepPermissions → SpawnsAreInRoots → StagesAreRuns → StagesAreBeside → CallsCarry → OpenBlocksCarry → YieldsCarry → ConclusionsRefine → JoinAnyhow → CheckedAreRefined
checked_are_refined keep in_roots runs beside calls open_step yields conclude join program layer store checked = blocks_refined keep in_roots runs beside calls open_step yields conclude join program layer store checked
