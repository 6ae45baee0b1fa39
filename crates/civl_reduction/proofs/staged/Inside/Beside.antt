-- Beside each block run that isn't challenged all is calm, or one block is open.
use Rattle.std.proofs.Common.{◌≡◌, ℕ, ◌+◌, Bool, true, false, List, [], ◌∷◌, ◌++◌, map, Option, None, Some, slice_get, is_some, refl, sym, ap, ◌∙◌, subst, inl, inr}
use Rattle.std.specs.Prelude.{if◌then◌else◌}
use Rattle.std.proofs.lemmas.Bool.{false≢true}
use Rattle.std.proofs.lemmas.Option.{same_Some, none-some}
use Rattle.std.proofs.lemmas.List.{map-append}
use Rattle.civl_tree.specs.declared.program.Proc.{Proc}
use Rattle.civl_tree.specs.declared.program.Program.{Program}
use Rattle.civl_firing.specs.declared.store.Store.{Store}
use Rattle.civl_meaning.specs.declared.config.Activation.{Activation}
use Rattle.civl_meaning.specs.declared.config.Plain.{Plain}
use Rattle.civl_meaning.specs.declared.config.Running.{Running}
use Rattle.civl_meaning.specs.declared.config.Stepped.{Stepped}
use Rattle.civl_meaning.specs.declared.config.Stepped.TheVariants.{Moved}
use Rattle.civl_meaning.specs.declared.config.Move as meaning
use Rattle.civl_meaning.specs.declared.config.Config as config
use Rattle.civl_meaning.specs.Rest.{Rest, rest_at}
use Rattle.civl_meaning.specs.Step.{start, step_of}
use Rattle.civl_meaning.specs.Run.{RunsTo}
use Rattle.civl_meaning.specs.Failing.{IsMove}
use Rattle.civl_meaning.specs.Layers.{program_at}
use Rattle.civl_reduction.specs.interleavings.Runs.{Staged, begun, goes, ends, MayStep}
use Rattle.civl_reduction.specs.interleavings.Threads.{Config, Move, inside_in}
use Rattle.civl_reduction.specs.interleavings.Threads as threads
use Rattle.civl_reduction.specs.exchanges.Interleavings.{Chosen}
use Rattle.civl_reduction.proofs.exchanges.Exchanging.{steps_back}
use Rattle.civl_reduction.specs.checked.Checked.{IsChecked, ActionsKeepPermissions, SpawnsAreInRoots}
use Rattle.civl_reduction.specs.blocks.Blocks.{at_yield, frame_of_layer, rest_of, block_in, inside}
use Rattle.civl_reduction.specs.blocks.Reduces.{plain_move, plain_config, layer_threads, layer_system}
use Rattle.civl_reduction.specs.staged.Stages.{OneIsInside, StagesAreRuns}
use Rattle.civl_reduction.specs.blocks.Cuts.{frame_in, frame_at, settled}
use Rattle.civl_reduction.specs.blocks.Shadow.{Shadow, course_of, glided, progress_in, shadow_with, Shadowed, before_frame, before_step, after_step, shadowed_step, shadowed_from, shadowed_start, shadowed}
use Rattle.civl_reduction.specs.blocks.Challenged.{challenged}
use Rattle.civl_reduction.specs.staged.Calm.{AllIsCalm}
use Rattle.civl_reduction.proofs.staged.Calm.Outside.{starts_are_calm, steps_outside_keep_calm}
use Rattle.civl_reduction.specs.staged.Opened.{BlockIsOpen, StandsThere, GoesOn, stepped, StepLeaves, IsReached, YieldsStep}
use Rattle.civl_reduction.proofs.staged.Opened.Concluding.{open_blocks_end}
use Rattle.civl_reduction.proofs.staged.Opened.Round.{open_blocks_step}
use Rattle.civl_reduction.proofs.staged.Opened.Called.{calls_open_blocks}
use Rattle.civl_reduction.proofs.simulation.Followed.Shadows.{shadowed_more}
use Rattle.civl_reduction.specs.staged.Inside.{Beside, StageIsBeside, StagesAreBeside}

-- ---- inside and outside

-- a thread inside a block has a frame that stands at no yield
pub inside_frame : (program : Program) (layer : ℕ) (o : Option (Proc × Activation)) → is_some (block_in o) ≡ true → (f : Proc × Activation) × (o ≡ Some f) × (at_yield (rest_of f) ≡ false)
inside_frame program layer None h = absurd (false≢true h)
inside_frame program layer (Some f) h = go (at_yield (rest_of f)) refl h
  where
    go : (b : Bool) → at_yield (rest_of f) ≡ b → is_some (if◌then◌else◌ {A = Option Rest} b None (Some (rest_of f))) ≡ true → (g : Proc × Activation) × (◌≡◌ {A = Option (Proc × Activation)} (Some f) (Some g)) × (at_yield (rest_of g) ≡ false)
    go true e k = absurd (false≢true k)
    go false e k = (f, refl, e)

-- outside one a frame stands at a yield
pub outside_frame : (f : Proc × Activation) → is_some (block_in (Some f)) ≡ false → at_yield (rest_of f) ≡ true
outside_frame f h = go (at_yield (rest_of f)) refl h
  where
    go : (b : Bool) → at_yield (rest_of f) ≡ b → is_some (if◌then◌else◌ {A = Option Rest} b None (Some (rest_of f))) ≡ false → at_yield (rest_of f) ≡ true
    go true e k = e
    go false e k = absurd (false≢true (sym k))

-- where nothing is open nothing is challenged
pub unchallenged : (program : Program) (layer : ℕ) (store : Store) {ms : List (Move Chosen)} {o : Option ℕ} {c : Config Store Running} → Staged (layer_system program layer store (challenged program layer store)) ms o c → o ≡ None → challenged program layer store (map plain_move ms) ≡ false
unchallenged program layer store (begun h) e = h
unchallenged program layer store (goes m d staged may step inside) e = absurd (none-some _ (sym e))
unchallenged program layer store (ends m d staged may step inside h) e = h

module _ (keep : ActionsKeepPermissions) (in_roots : SpawnsAreInRoots) (stages_are_runs : StagesAreRuns) (yields_step : YieldsStep) (program : Program) (layer : ℕ) (store : Store) (checked : IsChecked program layer store) where
  abbrev plain : Plain
  plain = program_at program layer

  reached : {ms : List (Move Chosen)} {o : Option ℕ} {c : Config Store Running} → Staged (layer_system program layer store (challenged program layer store)) ms o c → (x : config.Config) → x ≡ plain_config c → IsReached program layer store x
  reached {ms = ms} {o = o} {c = c} staged x e =
      let stage = stages_are_runs program layer store (challenged program layer store) ms o c checked staged in
      record { checked = checked; moves = map plain_move ms; are = stage.are_moves; runs = subst (RunsTo (program_at program layer) (map plain_move ms) (start (program_at program layer) store)) (sym e) stage.runs }

  module _ (ms : List (Move Chosen)) (o : Option ℕ) (c : Config Store Running) (staged : Staged (layer_system program layer store (challenged program layer store)) ms o c) (was : StageIsBeside program layer store ms o c) (m : Move Chosen) (d : Config Store Running)
      (may : MayStep o m.thread) (step : threads.step_of (layer_threads program layer store) c m ≡ Some d) where
    abbrev s : Shadowed
    s = shadowed program layer store (map plain_move ms)

    abbrev pm : meaning.Move
    pm = plain_move m

    made : step_of (program_at program layer) s.config pm ≡ (Moved, plain_config d)
    made = subst (λ (x : config.Config). step_of (program_at program layer) x pm ≡ (Moved, plain_config d)) (sym was.config_is) (steps_back (program_at program layer) store (inside program layer) (plain_config c) pm m.chosen.1 d step)

    is_move : IsMove pm
    is_move = m.chosen.1

    r : IsReached program layer store s.config
    r = reached staged s.config was.config_is

    standing : OneIsInside program layer c o
    standing = (stages_are_runs program layer store (challenged program layer store) ms o c checked staged).standing

    -- a thread of the configuration
    frame_then : (t : ℕ) (f : Proc × Activation) → frame_at program (layer + 1) s.config.threads t ≡ Some f → (thread : Running) × (slice_get c.threads t ≡ Some thread) × (frame_of_layer program (layer + 1) thread ≡ Some f)
    frame_then t f e = go (slice_get c.threads t) refl (sym (ap (λ (x : config.Config). frame_at program (layer + 1) x.threads t) was.config_is) ∙ e)
      where
        go : (x : Option Running) → slice_get c.threads t ≡ x → frame_in program (layer + 1) x ≡ Some f → (thread : Running) × (slice_get c.threads t ≡ Some thread) × (frame_of_layer program (layer + 1) thread ≡ Some f)
        go None q h = absurd (none-some f h)
        go (Some x) q h = (x, q, h)

    -- the shadow just before the step
    abbrev g : Shadowed
    g = record { config = s.config; shadow = before_step program layer m.thread s.config s.shadow }

    next_is : shadowed_step program layer s pm ≡ stepped program layer g pm (plain_config d)
    next_is = ap (λ (z : Stepped × config.Config). record { config = z.1; shadow = after_step program layer m.thread s.config z.1 (before_step program layer m.thread s.config s.shadow) }) made

    -- nothing takes effect before a step of a thread that stands at no yield
    still : (x : Option (Proc × Activation)) → frame_at program (layer + 1) s.config.threads m.thread ≡ x → ((f : Proc × Activation) → x ≡ Some f → at_yield (rest_of f) ≡ false) → before_step program layer m.thread s.config s.shadow ≡ s.shadow
    still None e n = ap (before_frame program layer m.thread s.config.store s.shadow) e
    still (Some f) e n = ap (before_frame program layer m.thread s.config.store s.shadow) e ∙ ap (λ (b : Bool). if b then shadow_with s.shadow m.thread (glided (course_of program layer f.0) (settled (rest_of f)) (progress_in program layer m.thread s.config.store s.shadow f.1)) else s.shadow) (n f refl)

    still_next : before_step program layer m.thread s.config s.shadow ≡ s.shadow → stepped program layer s pm (plain_config d) ≡ shadowed_step program layer s pm
    still_next e = ap (λ (h : Shadow). record { config = plain_config d; shadow = after_step program layer m.thread s.config (plain_config d) h }) (sym e) ∙ sym next_is

    -- ---- what the step leaves

    from_open : (t : ℕ) → m.thread ≡ t → (b : BlockIsOpen program layer s t) → StandsThere b → OneIsInside program layer c (Some t) → StepLeaves program layer (shadowed_step program layer s pm) m.thread
    from_open t same b there inside_one = by_same (subst (λ (u : ℕ). (x : BlockIsOpen program layer s u) × StandsThere x) (sym same) (b, there)) (subst (λ (u : ℕ). OneIsInside program layer c (Some u)) (sym same) inside_one)
      where
        by_same : (x : BlockIsOpen program layer s m.thread) × StandsThere x → OneIsInside program layer c (Some m.thread) → StepLeaves program layer (shadowed_step program layer s pm) m.thread
        by_same x one =
            let frame = inside_frame program layer (frame_of_layer program (layer + 1) one.0.thread) one.0.inside_one in
            let its : frame_at program (layer + 1) s.config.threads m.thread ≡ Some frame.0 = ap (λ (y : config.Config). frame_at program (layer + 1) y.threads m.thread) was.config_is ∙ (ap (frame_in program (layer + 1)) one.0.there ∙ frame.1) in
            let same_frame : x.0.f ≡ frame.0 = same_Some x.0.f frame.0 (sym (ap (frame_in program (layer + 1)) x.0.there ∙ x.0.framed) ∙ its) in
            let on : at_yield (rest_of x.0.f) ≡ false = ap (λ (y : Proc × Activation). at_yield (rest_of y)) same_frame ∙ frame.2 in
            let goes_on : GoesOn x.0 = ap (λ (p : ℕ). at_yield (rest_at x.0.f.0.body p)) x.1 ∙ on in
            subst (λ (z : Shadowed). StepLeaves program layer z m.thread) (still_next (still (Some frame.0) its (λ f e. ap (λ (y : Proc × Activation). at_yield (rest_of y)) (sym (same_Some frame.0 f e)) ∙ frame.2)))
            (open_blocks_step keep in_roots program layer store s pm (plain_config d) r is_move made x.0 goes_on)

    from_calm : AllIsCalm program layer s → OneIsInside program layer c None → challenged program layer store (map plain_move ms) ≡ false → StepLeaves program layer (shadowed_step program layer s pm) m.thread
    from_calm calm none_inside not_so = by_frames (frame_at program (layer + 1) s.config.threads m.thread) refl (frame_at program (layer + 1) d.threads m.thread) refl
      where
        by_frames : (x : Option (Proc × Activation)) → frame_at program (layer + 1) s.config.threads m.thread ≡ x → (y : Option (Proc × Activation)) → frame_at program (layer + 1) d.threads m.thread ≡ y → StepLeaves program layer (shadowed_step program layer s pm) m.thread
        by_frames None e None q = inr (
          steps_outside_keep_calm keep in_roots program layer store r.moves s pm (plain_config d) checked r.are r.runs is_move made e q calm,
          ap (λ (z : Shadowed). frame_at program (layer + 1) z.config.threads m.thread) next_is ∙ q,
        )
        by_frames None e (Some f) q =
            subst (λ (z : Shadowed). StepLeaves program layer z m.thread) (still_next (still None e (λ f h. absurd (none-some f h))))
            (inl (calls_open_blocks keep program layer store s pm (plain_config d) f r is_move made calm not_so e q))
        by_frames (Some f) e y q =
            let t = frame_then m.thread f e in
            let out = none_inside m.thread t.0 t.1 in
            let yields = outside_frame f (sym (ap (λ (z : Option (Proc × Activation)). is_some (block_in z)) t.2) ∙ out) in
            subst (λ (z : Shadowed). StepLeaves program layer z m.thread) (sym next_is)
            (yields_step program layer store s pm (plain_config d) f r is_move made calm not_so e yields)

    step_leaves : StepLeaves program layer (shadowed_step program layer s pm) m.thread
    step_leaves = by_open o refl was.beside standing may
      where
        by_open : (x : Option ℕ) → o ≡ x → Beside program layer (shadowed program layer store (map plain_move ms)) x → OneIsInside program layer c x → MayStep x m.thread → StepLeaves program layer (shadowed_step program layer (shadowed program layer store (map plain_move ms)) (plain_move m)) m.thread
        by_open None e b n may = from_calm b n (unchallenged program layer store staged e)
        by_open (Some t) e b n may = from_open t may b.0 b.1 n

    -- ---- the moves with this one

    abbrev more : Shadowed
    more = shadowed program layer store (map plain_move (ms ++ m ∷ []))

    more_is : more ≡ shadowed_step program layer s pm
    more_is =
        ap (λ (l : List meaning.Move). shadowed_from program layer l (shadowed_start program layer store)) (map-append plain_move ms (m ∷ []))
        ∙ shadowed_more program layer (map plain_move ms) pm (shadowed_start program layer store)

    more_config : more.config ≡ plain_config d
    more_config = ap (λ (z : Shadowed). z.config) (more_is ∙ next_is)

    leaves_more : StepLeaves program layer more m.thread
    leaves_more = subst (λ (z : Shadowed). StepLeaves program layer z m.thread) (sym more_is) step_leaves

    frame_more : frame_at program (layer + 1) more.config.threads m.thread ≡ frame_in program (layer + 1) (slice_get d.threads m.thread)
    frame_more = ap (λ (x : config.Config). frame_at program (layer + 1) x.threads m.thread) more_config

    -- the frame of a thread that is inside
    in_frame : (b : Bool) → inside_in (layer_threads program layer store) (slice_get d.threads m.thread) ≡ b → is_some (block_in (frame_in program (layer + 1) (slice_get d.threads m.thread))) ≡ b
    in_frame b = go (slice_get d.threads m.thread)
      where
        go : (x : Option Running) → inside_in (layer_threads program layer store) x ≡ b → is_some (block_in (frame_in program (layer + 1) x)) ≡ b
        go None h = h
        go (Some x) h = h

    pub goes_beside : inside_in (layer_threads program layer store) (slice_get d.threads m.thread) ≡ true → StageIsBeside program layer store (ms ++ m ∷ []) (Some m.thread) d
    goes_beside inside_one = record { config_is = more_config; beside = go leaves_more }
      where
        go : StepLeaves program layer (shadowed program layer store (map plain_move (ms ++ m ∷ []))) m.thread → (x : BlockIsOpen program layer (shadowed program layer store (map plain_move (ms ++ m ∷ []))) m.thread) × StandsThere x
        go (inl x) = x
        go (inr x) =
            let f = inside_frame program layer (frame_in program (layer + 1) (slice_get d.threads m.thread)) (in_frame true inside_one) in
            absurd (none-some f.0 (sym x.1 ∙ (frame_more ∙ f.1)))

    pub ends_beside : inside_in (layer_threads program layer store) (slice_get d.threads m.thread) ≡ false → Staged (layer_system program layer store (challenged program layer store)) (ms ++ m ∷ []) None d → StageIsBeside program layer store (ms ++ m ∷ []) None d
    ends_beside outside_one next = record { config_is = more_config; beside = go leaves_more }
      where
        go : StepLeaves program layer (shadowed program layer store (map plain_move (ms ++ m ∷ []))) m.thread → AllIsCalm program layer (shadowed program layer store (map plain_move (ms ++ m ∷ [])))
        go (inl x) =
            let framed = sym (sym (ap (frame_in program (layer + 1)) x.0.there ∙ x.0.framed) ∙ frame_more) in
            let yields = outside_frame x.0.f (sym (ap (λ (y : Option (Proc × Activation)). is_some (block_in y)) framed) ∙ in_frame false outside_one) in
            open_blocks_end keep program layer store (shadowed program layer store (map plain_move (ms ++ m ∷ []))) m.thread (reached next (shadowed program layer store (map plain_move (ms ++ m ∷ []))).config more_config) x.0 x.1 yields
        go (inr x) = x.0

  stage : {ms : List (Move Chosen)} {o : Option ℕ} {c : Config Store Running} → Staged (layer_system program layer store (challenged program layer store)) ms o c → StageIsBeside program layer store ms o c
  stage (begun h) = record { config_is = refl; beside = starts_are_calm program layer store checked }
  stage (goes {ms = ms} {o = o} {c = c} m d staged may step inside_one) = goes_beside ms o c staged (stage staged) m d may step inside_one
  stage (ends {ms = ms} {o = o} {c = c} m d staged may step outside_one h) = ends_beside ms o c staged (stage staged) m d may step outside_one (ends m d staged may step outside_one h)

pub stages_are_beside : ActionsKeepPermissions → SpawnsAreInRoots → StagesAreRuns → YieldsStep → StagesAreBeside
stages_are_beside keep in_roots runs yields program layer store moves o c checked staged = stage keep in_roots runs yields program layer store checked staged
