-- Blocks, and steps outside the layer's procedures, are followed.
use Rattle.std.proofs.Common.{◌≡◌, ◌≢◌, ℕ, ◌+◌, Bool, true, List, [], ◌∷◌, map, refl, sym, ap, ◌∙◌, subst, Option, None, Some, slice_get, inl, inr}
use Rattle.std.specs.Prelude.{if◌then◌else◌}
use Rattle.std.proofs.lemmas.Bool.{cases_eq}
use Rattle.civl_bits.specs.declared.value.Value.{Value}
use Rattle.civl_tree.specs.declared.program.Proc.{Proc}
use Rattle.civl_tree.specs.declared.program.Program.{Program}
use Rattle.civl_firing.specs.declared.store.Store.{Store}
use Rattle.civl_meaning.specs.declared.config.Plain.{Plain}
use Rattle.civl_meaning.specs.declared.config.Activation.{Activation}
use Rattle.civl_meaning.specs.declared.config.Config as meaning
use Rattle.civl_meaning.specs.declared.config.Running.{Running}
use Rattle.civl_meaning.specs.Change.{new_frame, outs_in, doing}
use Rattle.civl_meaning.specs.Config.{IsOf}
use Rattle.civl_meaning.specs.Layers.{program_at}
use Rattle.civl_conditions.specs.Assumed.{inputs_of}
use Rattle.civl_conditions.specs.footprints.Agreement.{StoresAgree, exists_at}
use Rattle.civl_reduction.specs.interleavings.Runs.{SystemRuns, Opens}
use Rattle.civl_reduction.specs.interleavings.Threads.{Threads, Config, Move, stepping_of, step_of}
use Rattle.civl_reduction.specs.exchanges.Interleavings.{Chosen, Call, as_config}
use Rattle.civl_reduction.specs.permissions.Apart.{SpawnsStandInRoots}
use Rattle.civl_reduction.specs.checked.Checked.{IsChecked}
use Rattle.civl_reduction.specs.blocks.Blocks.{frame_of_layer}
use Rattle.civl_reduction.specs.blocks.Reduces.{Challenged, plain_move, plain_config, layer_threads, layer_system}
use Rattle.civl_reduction.specs.blocks.Cuts.{frame_in, frame_at}
use Rattle.civl_reduction.specs.blocks.Shadow.{Shadowed, seen, shadowed_step, shadowed_from}
use Rattle.civl_reduction.specs.simulation.Meets.{behind, WasCalled, FrameMeets, ThreadMeets, MeetsBeside}
use Rattle.civl_reduction.proofs.simulation.Meets.Above.{called_instead}
use Rattle.civl_reduction.proofs.simulation.Meets.Frames.{framed}
use Rattle.civl_reduction.specs.simulation.Refined.{Sight, IsRefined, sight, sight_before, last_frame, BlockIsRefinedBy}
use Rattle.civl_reduction.proofs.simulation.Followed.Shadows.{done_other}
use Rattle.civl_reduction.proofs.simulation.Followed.Along.{OthersSame, StandsIn, HasLeft, behind_none}
use Rattle.civl_reduction.proofs.simulation.Followed.Ending.{stands_beside, HowMoved, HowFollowed, Followed, followed}
use Rattle.civl_reduction.proofs.simulation.Followed.Outside.{meets_same, of_next, leads_to}

module _ (program : Program) (layer : ℕ) (store : Store) (k : IsChecked program layer store) (roots : SpawnsStandInRoots program) (challenged : Challenged) where
  abbrev lower : Plain
  lower = program_at program layer

  abbrev upper : Plain
  upper = program_at program (layer + 1)

  abbrev P : Threads Store Running Call Chosen (List Value)
  P = layer_threads program layer store

  abbrev Q : Threads Store Running Call Chosen (List Value)
  Q = layer_threads program (layer + 1) store

  -- ---- along the first steps of a block

  of_opens : (ms : List (Move Chosen)) (t : ℕ) (c e : Config Store Running) → Opens (layer_system program layer store challenged) t ms c e → IsOf lower (plain_config c) → IsOf lower (plain_config e)
  of_opens [] t c e o h = subst (λ (y : Config Store Running). IsOf lower (plain_config y)) o h
  of_opens (m ∷ ms) t c e o h = of_opens ms t o.0 e o.4 (of_next program layer store k roots layer c m o.0 o.2 h)

  pub leads_opens : (ms : List (Move Chosen)) (t : ℕ) (s : Shadowed) (c e : Config Store Running) → s.config ≡ plain_config c → Opens (layer_system program layer store challenged) t ms c e → (shadowed_from program layer (map plain_move ms) s).config ≡ plain_config e
  leads_opens [] t s c e h o = h ∙ ap plain_config o
  leads_opens (m ∷ ms) t s c e h o = leads_opens ms t (shadowed_step program layer s (plain_move m)) o.0 e (leads_to program layer store k roots s m o.0 (subst (λ (y : meaning.Config). step_of P (as_config y) m ≡ Some o.0) (sym h) o.2)) o.4

  done_opens : (ms : List (Move Chosen)) (t : ℕ) (s : Shadowed) (c e : Config Store Running) (u : ℕ) → u ≢ t → Opens (layer_system program layer store challenged) t ms c e → (shadowed_from program layer (map plain_move ms) s).shadow.done u ≡ s.shadow.done u
  done_opens [] t s c e u n o = refl
  done_opens (m ∷ ms) t s c e u n o = done_opens ms t (shadowed_step program layer s (plain_move m)) o.0 e u n o.4 ∙ done_other program layer s (plain_move m) u (λ q. n (q ∙ o.1))

  -- ---- a block

  module _ (s : Shadowed) (x : meaning.Config) (meets : MeetsBeside program layer s x) (ms : List (Move Chosen)) (m : Move Chosen) (c e d : Config Store Running) (leads : s.config ≡ plain_config c)
      (o : Opens (layer_system program layer store challenged) m.thread ms c e) (step : step_of P e m ≡ Some d) where
    abbrev t : ℕ
    t = m.thread

    abbrev last : Shadowed
    last = shadowed_from program layer (map plain_move ms) s

    abbrev to : Shadowed
    to = shadowed_step program layer last (plain_move m)

    last_leads : last.config ≡ plain_config e
    last_leads = leads_opens ms m.thread s c e leads o

    pub to_leads : to.config ≡ plain_config d
    to_leads = leads_to program layer store k roots last m d (subst (λ (y : meaning.Config). step_of P (as_config y) m ≡ Some d) (sym last_leads) step)

    of_to : IsOf lower to.config
    of_to = subst (IsOf lower) (sym to_leads) (of_next program layer store k roots layer e m d step (of_opens ms m.thread c e o (subst (IsOf lower) leads meets.of_lower)))

    done_same : (u : ℕ) → u ≢ m.thread → to.shadow.done u ≡ s.shadow.done u
    done_same u n = done_other program layer last (plain_move m) u n ∙ done_opens ms m.thread s c e u n o

    threads_from : (u : ℕ) → slice_get s.config.threads u ≡ slice_get c.threads u
    threads_from u = ap (λ (y : meaning.Config). slice_get y.threads u) leads

    threads_to : (u : ℕ) → slice_get to.config.threads u ≡ slice_get d.threads u
    threads_to u = ap (λ (y : meaning.Config). slice_get y.threads u) to_leads

    module _ (others : OthersSame m.thread c.threads d.threads) (picked : Proc × Activation → List Value → Type 0) (refined : BlockIsRefinedBy picked program layer s last to m.thread) (caller : Running) (before : Sight) (store_is : before.store ≡ seen program layer s)
        (high : slice_get x.threads m.thread ≡ Some (stands_beside program layer store k roots caller before)) where
      -- what follows the block, in the frame f in which it ended
      abbrev After : Proc × Activation → Type 0
      After f = Followed program layer store k roots (picked f) x m.thread caller before (sight program layer to m.thread f)

      near_before : StoresAgree (exists_at (layer + 1)) program.globals before.store x.store
      near_before = subst (λ (g : Store). StoresAgree (exists_at (layer + 1)) program.globals g x.store) (sym store_is) meets.stores

      follows : (f : Proc × Activation) (thread : Running) → frame_of_layer program (layer + 1) thread ≡ Some f → WasCalled program layer f thread caller → IsRefined (picked f) program (layer + 1) f.0 (inputs_of f.0 f.1.locals) before (sight program layer to m.thread f) → After f
      follows f thread q w r =
          let i = framed program (layer + 1) thread f q in
          followed program layer store k roots (picked f) x meets.of_upper m.thread caller before (sight program layer to m.thread f) high near_before f (called_instead program layer k.layered f thread caller i.there i.layered w).0 r

      others_meet : (f : Proc × Activation) (a : After f) (u : ℕ) → u ≢ m.thread → ThreadMeets program layer (to.shadow.done u) (slice_get to.config.threads u) (slice_get a.end.threads u)
      others_meet f a u n =
          subst (λ (b : Bool). ThreadMeets program layer b (slice_get to.config.threads u) (slice_get a.end.threads u)) (sym (done_same u n))
          (subst (λ (p : Option Running). ThreadMeets program layer (s.shadow.done u) p (slice_get a.end.threads u)) (threads_from u ∙ (sym (others u n) ∙ sym (threads_to u)))
          (subst (λ (p : Option Running). ThreadMeets program layer (s.shadow.done u) (slice_get s.config.threads u) p) (sym (a.others u n)) (meets.threads u)))

      -- with the thread itself
      all_meet : (f : Proc × Activation) (a : After f) → ThreadMeets program layer (to.shadow.done m.thread) (slice_get to.config.threads m.thread) (slice_get a.end.threads m.thread) → MeetsBeside program layer to (plain_config a.end)
      all_meet f a own = record {
        of_lower = of_to;
        of_upper = a.of_upper;
        fits = refined.fits;
        stores = a.near;
        threads = λ u. elim (cases_eq u m.thread) [ inl q ↦ subst (λ (v : ℕ). ThreadMeets program layer (to.shadow.done v) (slice_get to.config.threads v) (slice_get a.end.threads v)) (sym q) own | inr n ↦ others_meet f a u n ];
      }

      abbrev before_is : Type 0
      before_is = before ≡ sight_before program layer s m.thread (frame_at program (layer + 1) s.config.threads m.thread)

      abbrev pub Met : Type 0
      Met = (ns : List (Move Chosen)) × (y : Config Store Running) × SystemRuns (stepping_of Q) ns (as_config x) y × MeetsBeside program layer to (plain_config y)
          × HowFollowed program layer store k roots picked s last to m ns

      -- it ended at a yield
      still_in : before_is → (f : Proc × Activation) → last_frame (frame_at program (layer + 1) to.config.threads m.thread) (frame_at program (layer + 1) last.config.threads m.thread) ≡ Some f → StandsIn program layer store k d.threads m.thread caller f → IsRefined (picked f) program (layer + 1) f.0 (inputs_of f.0 f.1.locals) before (sight program layer to m.thread f) → Met
      still_in b f ends i r =
          let a = follows f i.thread i.framed_by i.called r in (
            a.moves,
            a.end,
            a.runs,
            all_meet f a
                (subst (λ (p : Option Running). ThreadMeets program layer (to.shadow.done m.thread) p (slice_get a.end.threads m.thread)) (sym (threads_to m.thread ∙ i.there))
                (subst (λ (p : Option Running). ThreadMeets program layer (to.shadow.done m.thread) (Some i.thread) p) (sym a.there)
                (subst (λ (q : Option (Proc × Activation)). FrameMeets program layer (to.shadow.done m.thread) i.thread q (stands_beside program layer store k roots caller (sight program layer to m.thread f))) (sym i.framed_by)
                (caller, i.called, refl)))),
            inr (f, ends, subst (λ (q : Sight). HowMoved program layer store k roots (picked f) m.thread q (sight program layer to m.thread f) a.moves) b a.how),
          )

      -- or with its frame
      left_it : before_is → (f : Proc × Activation) → last_frame (frame_at program (layer + 1) to.config.threads m.thread) (frame_at program (layer + 1) last.config.threads m.thread) ≡ Some f → StandsIn program layer store k e.threads m.thread caller f → HasLeft program layer store k d.threads m.thread caller f → to.shadow.done m.thread ≡ true
          → IsRefined (picked f) program (layer + 1) f.0 (inputs_of f.0 f.1.locals) before (sight program layer to m.thread f) → Met
      left_it b f ends i l done r =
          let a = follows f i.thread i.framed_by i.called r in
          let gone = behind caller (doing upper caller) (outs_in f.0 f.1.locals) in
          let none = behind_none program layer store k caller (new_frame f.1.procedure f.0 i.called.args) i.called.place i.called.enters (doing upper caller) (outs_in f.0 f.1.locals) in
          let there : slice_get a.end.threads m.thread ≡ Some gone = a.there ∙ ap (λ (b : Bool). Some (if b then behind caller (doing upper caller) (outs_in f.0 f.1.locals) else caller)) done in (
            a.moves,
            a.end,
            a.runs,
            all_meet f a
                (subst (λ (p : Option Running). ThreadMeets program layer (to.shadow.done m.thread) p (slice_get a.end.threads m.thread)) (sym (threads_to m.thread ∙ l))
                (subst (λ (p : Option Running). ThreadMeets program layer (to.shadow.done m.thread) (Some gone) p) (sym there)
                (meets_same program layer store k roots (to.shadow.done m.thread) gone none))),
            inr (f, ends, subst (λ (q : Sight). HowMoved program layer store k roots (picked f) m.thread q (sight program layer to m.thread f) a.moves) b a.how),
          )

      -- the frames there, as the refinement tells them
      frame_to : (f : Proc × Activation) → StandsIn program layer store k d.threads m.thread caller f → frame_at program (layer + 1) to.config.threads m.thread ≡ Some f
      frame_to f i = ap (frame_in program (layer + 1)) (threads_to m.thread ∙ i.there) ∙ i.framed_by

      frame_last : (f : Proc × Activation) → StandsIn program layer store k e.threads m.thread caller f → frame_at program (layer + 1) last.config.threads m.thread ≡ Some f
      frame_last f i = ap (λ (y : meaning.Config). frame_at program (layer + 1) y.threads m.thread) last_leads ∙ (ap (frame_in program (layer + 1)) i.there ∙ i.framed_by)

      pub met_in : before_is → (f : Proc × Activation) → StandsIn program layer store k d.threads m.thread caller f → Met
      met_in b f i =
          let ends = ap (λ (p : Option (Proc × Activation)). last_frame p (frame_at program (layer + 1) last.config.threads m.thread)) (frame_to f i) in
          still_in b f ends i (subst (λ (q : Sight). IsRefined (picked f) program (layer + 1) f.0 (inputs_of f.0 f.1.locals) q (sight program layer to m.thread f)) (sym b)
          (refined.refined f ends))

      pub met_left : before_is → (f : Proc × Activation) → StandsIn program layer store k e.threads m.thread caller f → HasLeft program layer store k d.threads m.thread caller f → Met
      met_left b f i l =
          let none : frame_at program (layer + 1) to.config.threads m.thread ≡ None =
          ap (frame_in program (layer + 1)) (threads_to m.thread ∙ l) ∙ behind_none program layer store k caller (new_frame f.1.procedure f.0 i.called.args) i.called.place i.called.enters (doing upper caller) (outs_in f.0 f.1.locals) in
          let ends = ap (λ (p : Option (Proc × Activation)). last_frame p (frame_at program (layer + 1) last.config.threads m.thread)) none ∙ frame_last f i in
          left_it b f ends i l (refined.exit f none (frame_last f i))
          (subst (λ (q : Sight). IsRefined (picked f) program (layer + 1) f.0 (inputs_of f.0 f.1.locals) q (sight program layer to m.thread f)) (sym b)
          (refined.refined f ends))
