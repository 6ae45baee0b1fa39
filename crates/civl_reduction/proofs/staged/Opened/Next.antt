-- An open block behind a step of its frame.
use Rattle.std.proofs.Common.{◌≡◌, ◌≢◌, ℕ, ◌+◌, Bool, List, [], ◌++◌, Option, None, Some, slice_get, refl, sym, ap, ◌∙◌, subst, inl}
use Rattle.std.specs.Prelude.{IsTrue, if◌then◌else◌}
use Rattle.std.proofs.lemmas.Bool.{eq-eqb}
use Rattle.civl_bits.specs.declared.value.Value.{Value}
use Rattle.civl_firing.specs.values.Values.{HaveSorts}
use Rattle.civl_tree.specs.declared.program.Proc.{Proc}
use Rattle.civl_tree.specs.declared.program.Program.{Program}
use Rattle.civl_firing.specs.declared.store.Store.{Store}
use Rattle.civl_firing.specs.Stores.{IsStore}
use Rattle.civl_meaning.specs.declared.config.Activation.{Activation}
use Rattle.civl_meaning.specs.declared.config.Move.{Move}
use Rattle.civl_meaning.specs.declared.config.Running.{Running}
use Rattle.civl_meaning.specs.declared.config.Config.{Config}
use Rattle.civl_meaning.specs.declared.config.Stepped.{Stepped}
use Rattle.civl_meaning.specs.declared.config.Stepped.TheVariants.{Moved}
use Rattle.civl_meaning.specs.Permissions.{pairwise_disjoint}
use Rattle.civl_meaning.specs.Rest.{rest_at}
use Rattle.civl_meaning.specs.Step.{step_of}
use Rattle.civl_meaning.specs.Failing.{IsMove}
use Rattle.civl_meaning.specs.Layers.{program_at}
use Rattle.civl_layers.specs.declared.cut.Cut.{Cut}
use Rattle.civl_layers.proofs.PlainPrograms.{layered_is_plain}
use Rattle.civl_conditions.specs.footprints.Agreement.{AgreeOn}
use Rattle.civl_conditions.specs.paths.Paths.{Progress}
use Rattle.civl_conditions.specs.paths.Runs.{Standing, led}
use Rattle.civl_conditions.specs.paths.Seen.{IsProcOf, lower_course}
use Rattle.civl_conditions.specs.Invariants.{invariants_hold}
use Rattle.civl_conditions.specs.Values.{Begun}
use Rattle.civl_conditions.specs.Permissions.{held_at, of_held}
use Rattle.civl_conditions.specs.Assumed.{owned}
use Rattle.civl_condition_laws.specs.States.{frame_sorts}
use Rattle.civl_reduction.proofs.permissions.Staying.{IsKept, step_kept}
use Rattle.civl_reduction.proofs.permissions.Reaching.{are_writable}
use Rattle.civl_reduction.specs.checked.Checked.{ActionsKeepPermissions}
use Rattle.civl_reduction.specs.blocks.Blocks.{frame_of_layer}
use Rattle.civl_reduction.specs.open_blocks.Following.{led_here}
use Rattle.civl_reduction.specs.open_blocks.Open.{IsOpen}
use Rattle.civl_reduction.proofs.open_blocks.Open.Introducing.{led_sorted}
use Rattle.civl_reduction.specs.blocks.Cuts.{frame_in, frame_at}
use Rattle.civl_reduction.specs.blocks.Shadow.{Shadow, Shadowed, merged, course_of, progress_in, with_done, shadow_with, begun_with, after_frame}
use Rattle.civl_reduction.specs.staged.Pausing.{StandsAt}
use Rattle.civl_reduction.proofs.staged.Pausing.Cutting.{topmost}
use Rattle.civl_reduction.proofs.staged.Pausing.Apart.{kept, run_is_kept, known}
use Rattle.civl_reduction.specs.staged.Calm.{FrameIsCalm, IsCalm}
use Rattle.civl_reduction.proofs.staged.Calm.Stepping.{Leaves, leaves}
use Rattle.civl_reduction.proofs.staged.Calm.Outside.{done_other}
use Rattle.civl_reduction.specs.staged.Opened.{BlockIsOpen, StandsThere, stepped, IsReached}
use Rattle.civl_reduction.proofs.staged.Opened.Beginning.{BegunSo, BeganSo, LeavesSo}
use Rattle.civl_reduction.proofs.staged.Opened.Noting.{bare, led_alike}
use Rattle.civl_reduction.proofs.staged.Opened.Old.{is_old, led_old, merged_itself, merged_is_old}

-- the configuration behind a step is kept too
pub next_kept : ActionsKeepPermissions → (program : Program) (layer : ℕ) (store : Store) (c d : Config) (m : Move) → IsReached program layer store c → IsMove m → step_of (program_at program layer) c m ≡ (Moved, d) → IsKept (program_at program layer) d
next_kept keep program layer store c d m r mv e =
    let k = r.checked in
    subst (λ (z : Stepped × Config). IsKept (program_at program layer) z.1) e
    (step_kept (program_at program layer) (layered_is_plain program k.layered layer) k.linear (are_writable program k.written) (kept keep program layer store k) c m mv (run_is_kept keep program layer store k r.moves c r.are r.runs))

pub done_own : (done : ℕ → Bool) (t : ℕ) (value : Bool) → with_done done t value t ≡ value
done_own done t value = ap (λ (b : Bool). if b then value else done t) (eq-eqb t t refl)

module _ (keep : ActionsKeepPermissions) (program : Program) (layer : ℕ) (store : Store) (s : Shadowed) (m : Move) (d : Config) (r : IsReached program layer store s.config) (mv : IsMove m) (e : step_of (program_at program layer) s.config m ≡ (Moved, d))
    (begun : Option (Proc × Activation)) (before : frame_at program (layer + 1) s.config.threads m.thread ≡ begun) (old : Store) (calm : IsCalm program (layer + 1) old (begun_with m.thread begun s.shadow).done s.config.threads (Some m.thread)) (fits : IsStore program.globals s.shadow.store)
    (thread : Running) (there : slice_get d.threads m.thread ≡ Some thread) (proc : Proc) (frame : Activation) (framed : frame_of_layer program (layer + 1) thread ≡ Some (proc, frame)) where
  left : Leaves (program_at program layer) s.config m d
  left = leaves (program_at program layer) s.config m d e

  -- the shadow before what takes effect, and what takes effect
  abbrev from : Shadow
  from = begun_with m.thread begun s.shadow

  abbrev L : Progress
  L = led (course_of program layer proc) (rest_at proc.body frame.place) (progress_in program layer m.thread d.store (begun_with m.thread begun s.shadow) frame)

  abbrev X : Shadowed
  X = record { config = d; shadow = shadow_with (begun_with m.thread begun s.shadow) m.thread L }

  pub behind_is : stepped program layer s m d ≡ X
  behind_is =
      ap (λ (x : Option (Proc × Activation)). behind x (frame_at program (layer + 1) d.threads m.thread)) before
      ∙ ap (behind begun) (ap (frame_in program (layer + 1)) there ∙ framed)
    where
      behind : Option (Proc × Activation) → Option (Proc × Activation) → Shadowed
      behind x y = record { config = d; shadow = after_frame program layer m.thread d.store (begun_with m.thread x s.shadow) y }

  same_store : (x : Option (Proc × Activation)) → (begun_with m.thread x s.shadow).store ≡ s.shadow.store
  same_store None = refl
  same_store (Some f) = refl

  from_fits : IsStore program.globals (begun_with m.thread begun s.shadow).store
  from_fits = subst (IsStore program.globals) (sym (same_store begun)) fits

  d_kept : IsKept (program_at program layer) d
  d_kept = next_kept keep program layer store s.config d m r mv e

  of : IsProcOf program frame.procedure (layer + 1) proc
  of = (topmost program (layer + 1) thread.state (proc, frame) framed).of

  locals_sorted : HaveSorts frame.locals (frame_sorts proc)
  locals_sorted =
      let top = topmost program (layer + 1) thread.state (proc, frame) framed in
      let c = r.checked in
      let k = known program layer d c.layered c.linear d_kept m.thread thread top.below (proc, frame) there top.is top.of.there in
      subst (λ (p : Proc). HaveSorts frame.locals (frame_sorts p)) k.proc k.locals.locals

  module _ (c : ℕ) (cut : Cut) (b : Begun) (bound : ℕ) (here : Standing) (opened : IsOpen program (layer + 1) frame.procedure c proc cut b bound here d.store frame) (place : here.place ≡ frame.place)
      (state : bare here.state ≡ bare (progress_in program layer m.thread d.store (begun_with m.thread begun s.shadow) frame)) (was : b.old ≡ old)
      (apart : (u : ℕ) (g : Proc × Activation) (y : ℕ) (other : Cut) → u ≢ m.thread → frame_at program (layer + 1) s.config.threads u ≡ Some g → StandsAt program (layer + 1) g y other
      → IsTrue (pairwise_disjoint (owned program proc c b ++ of_held (held_at program g.0 y) g.1.locals))) where
    abbrev H : Progress
    H = led_here program (layer + 1) proc here

    alike : bare H ≡ bare L
    alike =
        ap (λ (p : ℕ). bare (led (lower_course program (layer + 1) proc (λ n. [])) (rest_at proc.body p) here.state)) place
        ∙ led_alike program (layer + 1) layer proc (λ n. []) (rest_at proc.body frame.place) here.state (progress_in program layer m.thread d.store (begun_with m.thread begun s.shadow) frame) state

    store_is : H.store ≡ L.store
    store_is = ap (λ (p : Progress). p.store) alike

    began : here.state.store ≡ merged program layer d.store (begun_with m.thread begun s.shadow).store
    began = ap (λ (p : Progress). p.store) state

    there_old : AgreeOn (is_old (layer + 1)) program.globals L.store.values d.store.values
    there_old =
        let k = r.checked in
        subst (λ (g : Store). AgreeOn (is_old (layer + 1)) program.globals g.values d.store.values) store_is
        (led_old program frame.procedure (layer + 1) proc k.layered of d.store.values here.place here.state
        (subst (λ (g : Store). AgreeOn (is_old (layer + 1)) program.globals g.values d.store.values) (sym began) (merged_is_old program layer d.store (begun_with m.thread begun s.shadow).store d_kept.of_plain.store from_fits)))

    pub next_open : BlockIsOpen program layer X m.thread
    next_open = record {
      thread = thread;
      there = there;
      f = (proc, frame);
      framed = framed;
      c = c;
      cut = cut;
      b = b;
      bound = bound;
      here = here;
      opened = opened;
      store = store_is ∙ sym (merged_itself program layer d.store L.store there_old);
      done = ap (λ (p : Progress). p.done) alike ∙ sym (done_own (begun_with m.thread begun s.shadow).done m.thread L.done);
      fits = subst (IsStore program.globals) store_is (let k = r.checked in led_sorted program (layer + 1) frame.procedure proc k.layered of.there here opened.fits
          (subst (λ (ls : List Value). HaveSorts ls (frame_sorts proc)) (sym (ap (λ (p : Progress). p.locals) state)) locals_sorted));
      calm = record {
        invariants = subst (λ (g : Store). IsTrue (invariants_hold program (layer + 1) g)) (sym was) calm.invariants;
        frames = λ u n.
            let no : u ≢ m.thread = λ q. n (ap Some (sym q)) in
            subst (λ (g : Store). FrameIsCalm program (layer + 1) g (with_done (begun_with m.thread begun s.shadow).done m.thread L.done u) (frame_at program (layer + 1) d.threads u)) (sym was)
            (subst (λ (z : Bool). FrameIsCalm program (layer + 1) old z (frame_at program (layer + 1) d.threads u)) (sym (done_other (begun_with m.thread begun s.shadow).done m.thread L.done u no))
            (subst (FrameIsCalm program (layer + 1) old ((begun_with m.thread begun s.shadow).done u)) (sym (left.others (layer + 1) u no)) (calm.frames u n)));
      };
      apart = λ u g y other n is stands. apart u g y other n (sym (left.others (layer + 1) u n) ∙ is) stands;
    }

    -- with what is said of its beginning
    module _ (says : Proc → List Value → Store → Bool → List Value → Type 0) (so : BegunSo says proc b) where
      -- the step leaves it open
      pub leaves_open : LeavesSo says program layer s.config (stepped program layer s m d) m.thread
      unfolding next_open
      leaves_open = subst (λ (z : Shadowed). LeavesSo says program layer s.config z m.thread) (sym behind_is) (inl (next_open, place, so))

      -- as a block, where that is asked
      pub opens : (o : BlockIsOpen program layer (stepped program layer s m d) m.thread) × StandsThere o × BeganSo says o
      unfolding next_open
      opens = subst (λ (z : Shadowed). (o : BlockIsOpen program layer z m.thread) × StandsThere o × BeganSo says o) (sym behind_is) (next_open, place, so)
