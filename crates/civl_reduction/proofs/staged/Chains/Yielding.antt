-- A step of a thread whose frame stands at a yield: the chain of blocks from there, and the block that opens at its end.
use Rattle.std.proofs.Common.{◌≡◌, ℕ, ◌+◌, Bool, true, false, List, ◌∷◌, Option, Some, slice_get, refl, sym, ap, ◌∙◌, subst, inl, inr}
use Rattle.std.specs.Prelude.{if◌then◌else◌}
use Rattle.civl_bits.specs.declared.value.Value.{Value}
use Rattle.civl_tree.specs.declared.program.Proc.{Proc}
use Rattle.civl_tree.specs.declared.program.Program.{Program}
use Rattle.civl_tree.specs.declared.stmt.Stmt.{Stmt, out-Stmt}
use Rattle.civl_tree.specs.Numbering.{sizes_of}
use Rattle.civl_firing.specs.declared.store.Store.{Store}
use Rattle.civl_firing.specs.Stores.{IsStore}
use Rattle.civl_meaning.specs.declared.config.Activation.{Activation}
use Rattle.civl_meaning.specs.declared.config.State.{State}
use Rattle.civl_meaning.specs.declared.config.State.TheVariants.{Inside}
use Rattle.civl_meaning.specs.declared.config.Move.{Move}
use Rattle.civl_meaning.specs.declared.config.Running.{Running}
use Rattle.civl_meaning.specs.declared.config.Config.{Config}
use Rattle.civl_meaning.specs.declared.config.Stepped.{Stepped}
use Rattle.civl_meaning.specs.declared.config.Stepped.TheVariants as answer
use Rattle.civl_meaning.specs.declared.config.Change.{Change}
use Rattle.civl_meaning.specs.declared.config.Change.TheVariants as change
use Rattle.civl_meaning.specs.Places.{Spot, is_skipped, spot_at}
use Rattle.civl_meaning.specs.Rest.{Rest, place_in, head_of}
use Rattle.civl_meaning.specs.Change.{change_of, outs_in}
use Rattle.civl_meaning.specs.Step.{thread_after, state_after, config_after, step_with, step_in, step_of}
use Rattle.civl_meaning.specs.Failing.{IsMove}
use Rattle.civl_meaning.specs.Layers.{program_at}
use Rattle.civl_meaning.specs.Config.{ThreadIsSorted, IsStacked, moved_frame}
use Rattle.civl_meaning.proofs.Rests.{spot_of_rest}
use Rattle.civl_soundness.proofs.Fitting.{all_at}
use Rattle.civl_layers.specs.declared.cut.Cut.{Cut}
use Rattle.civl_layers.specs.declared.cut.CutKind.TheVariants as kind
use Rattle.civl_conditions.specs.paths.Paths.{Progress}
use Rattle.civl_conditions.specs.paths.Ends.{cut_number}
use Rattle.civl_conditions.specs.Values.{Begun}
use Rattle.civl_conditions.specs.Assumed.{inputs_of}
use Rattle.civl_reduction.proofs.permissions.Staying.{IsKept}
use Rattle.civl_reduction.specs.checked.Checked.{ActionsKeepPermissions, SpawnsAreInRoots}
use Rattle.civl_reduction.specs.blocks.Blocks.{at_yield, frame_of_layer, rest_of}
use Rattle.civl_reduction.specs.open_blocks.Following.{layer_head}
use Rattle.civl_reduction.specs.open_blocks.Open.{IsTopmost, IsOpen, OpensInLoop, beginning}
use Rattle.civl_reduction.proofs.open_blocks.Open.Opening.{blocks_open_in_loops}
use Rattle.civl_reduction.specs.blocks.Cuts.{frame_in, frame_at, settled}
use Rattle.civl_reduction.specs.blocks.Shadow.{Shadow, Shadowed, course_of, glided, progress_in, shadow_with, before_frame, before_step, merged, seen}
use Rattle.civl_reduction.specs.blocks.Challenged.{is_challenged}
use Rattle.civl_reduction.proofs.staged.Pausing.Cutting.{Topmost, topmost}
use Rattle.civl_reduction.proofs.staged.Pausing.Apart.{run_is_kept}
use Rattle.civl_reduction.specs.staged.Calm.{FrameIsCalm, IsCalm, AllIsCalm}
use Rattle.civl_reduction.proofs.staged.Calm.Outside.{thread_of, done_other}
use Rattle.civl_reduction.specs.staged.Stops.{StopsAt}
use Rattle.civl_reduction.specs.staged.Opened.{stepped, IsReached, YieldsStep}
use Rattle.civl_reduction.proofs.staged.Opened.Beginning.{LeavesSo, nothing_said, leaves_it}
use Rattle.civl_reduction.proofs.staged.Opened.Round.{open_blocks_leave}
use Rattle.civl_reduction.proofs.staged.Opened.Noting.{bare}
use Rattle.civl_reduction.proofs.staged.Opened.Old.{merged_itself}
use Rattle.civl_reduction.proofs.staged.Opened.Next.{done_own, leaves_open}
use Rattle.civl_reduction.proofs.staged.Opened.Stepping.{same_layer, set_same, framed_there}
use Rattle.civl_reduction.proofs.staged.Chains.Gliding.{skips_head}
use Rattle.civl_reduction.proofs.staged.Chains.Waiting.{WaitsAt, WaitsAtYield, cut, b, assumes, apart, layer_agrees}
use Rattle.civl_reduction.proofs.staged.Chains.Quiet.{BlocksKeep, rest_is, block}
use Rattle.civl_reduction.proofs.staged.Chains.Chaining.{ChainEnds, chain_ends}

module _ (keep : ActionsKeepPermissions) (in_roots : SpawnsAreInRoots) (program : Program) (layer : ℕ) (store : Store) (s : Shadowed) (m : Move) (d : Config) (f : Proc × Activation) (r : IsReached program layer store s.config) (mv : IsMove m) (e : step_of (program_at program layer) s.config m ≡ (answer.Moved, d))
    (thread : Running) (there : slice_get s.config.threads m.thread ≡ Some thread) (framed : frame_of_layer program (layer + 1) thread ≡ Some f) (says : Proc → List Value → Store → Bool → List Value → Type 0) where
  abbrev A : Progress
  A = glided (course_of program layer f.0) (settled (rest_of f)) (progress_in program layer m.thread s.config.store s.shadow f.1)

  abbrev G : Shadowed
  G = record { config = s.config; shadow = shadow_with s.shadow m.thread (glided (course_of program layer f.0) (settled (rest_of f)) (progress_in program layer m.thread s.config.store s.shadow f.1)) }

  abbrev Result : Type 0
  Result = LeavesSo says program layer s.config (stepped program layer (record { config = s.config; shadow = shadow_with s.shadow m.thread (glided (course_of program layer f.0) (settled (rest_of f)) (progress_in program layer m.thread s.config.store s.shadow f.1)) }) m d) m.thread

  top : Topmost program (layer + 1) thread.state f
  top = topmost program (layer + 1) thread.state f framed

  s_kept : IsKept (program_at program layer) s.config
  s_kept = run_is_kept keep program layer store r.checked r.moves s.config r.are r.runs

  is_top : IsTopmost program (layer + 1) f.1.procedure thread f.1
  is_top = record {
    below = top.below;
    inside = top.is;
    procedure = refl;
    sorted = subst (λ (k : ℕ). ThreadIsSorted (program_at program k) thread) (sym (same_layer layer)) (all_at (ThreadIsSorted (program_at program layer)) s.config.threads m.thread thread there s_kept.of_plain.sorted);
    stacked = subst (λ (k : ℕ). IsStacked (program_at program k) thread) (sym (same_layer layer)) (all_at (IsStacked (program_at program layer)) s.config.threads m.thread thread there s_kept.of_plain.stacked);
  }

  now : frame_at program (layer + 1) s.config.threads m.thread ≡ Some f
  now = ap (frame_in program (layer + 1)) there ∙ framed

  -- ---- from a yield loop

  module _ (n : ℕ) (st : Stmt) (k : Rest) (p : Progress) (w : WaitsAt program layer s m.thread f n st k p) (form : w.kind ≡ kind.YieldLoop) (head : layer_head n (out-Stmt st) ≡ Some n) (shown : is_skipped st ≡ false) (glide : glided (course_of program layer f.0) ((n, st) ∷ k) p ≡ p) where
    abbrev K : Cut
    K = cut keep program layer store s m.thread f r thread there framed n st k p w

    abbrev B : Begun
    B = b keep program layer store s m.thread f r thread there framed n st k p w

    abbrev sp : Spot
    sp = record { number = n; stmt = st; next = place_in (sizes_of f.0.body) k }

    spot : spot_at f.0.body f.1.place ≡ Some sp
    spot =
        spot_of_rest f.0.body f.1.place
        ∙ (skips_head (sizes_of f.0.body) (rest_of f) ((n, st) ∷ k) w.skips
        ∙ ap (λ (x : Bool). if◌then◌else◌ {A = Option Spot} x (head_of (sizes_of f.0.body) k) (Some (record { number = n; stmt = st; next = place_in (sizes_of f.0.body) k }))) shown)

    in_loop : OpensInLoop program (layer + 1) f.1.procedure (cut_number f.0 n) f.0 K B s.config.store f.1 (change_of (program_at program layer) s.config.store m.choices thread)
    in_loop =
        subst (λ (x : ℕ). OpensInLoop program (layer + 1) f.1.procedure (cut_number f.0 n) f.0 K B s.config.store f.1 (change_of (program_at program x) s.config.store m.choices thread)) (same_layer layer)
        (blocks_open_in_loops program (layer + 1) f.1.procedure (cut_number f.0 n) f.0 K B s.config.store f.1 thread m.choices sp
        (assumes keep program layer store s m.thread f r thread there framed n st k p w) (inl form) is_top spot head w.locals (layer_agrees keep program layer store s m.thread f r thread there framed n st k p w))

    changed : step_with s.config m.thread thread (change.Goes f.1.locals in_loop.0) ≡ (answer.Moved, d)
    changed = sym (ap (λ (x : Change). step_with s.config m.thread thread x) in_loop.1) ∙ (sym (ap (step_in (program_at program layer) s.config m) there) ∙ e)

    same : d ≡ config_after s.config m.thread thread (change.Goes f.1.locals in_loop.0)
    same = sym (ap (λ (z : Stepped × Config). z.1) changed)

    stays : d.store ≡ s.config.store
    stays = ap (λ (x : Config). x.store) same

    abbrev frame : Activation
    frame = moved_frame f.1 f.1.locals in_loop.0

    abbrev new : Running
    new = record { callee = thread.callee; args = thread.args; state = Inside top.below frame }

    there_now : slice_get d.threads m.thread ≡ Some new
    there_now =
        ap (λ (x : Config). slice_get x.threads m.thread) same
        ∙ (set_same s.config.threads m.thread thread (thread_after thread (change.Goes f.1.locals in_loop.0)) there
        ∙ ap (λ (z : State). Some (record { callee = thread.callee; args = thread.args; state = state_after z (change.Goes f.1.locals in_loop.0) })) top.is)

    framed_now : frame_of_layer program (layer + 1) new ≡ Some (f.0, frame)
    framed_now = framed_there program (layer + 1) frame f.0 (record { there = top.of.there; refines = top.of.refines; refined = top.of.refined; layered = top.of.layered })

    all_is : bare A ≡ bare p
    all_is = sym w.glides ∙ ap bare glide

    store_is : A.store ≡ p.store
    store_is = ap (λ (x : Progress). x.store) all_is

    calm_then : IsCalm program (layer + 1) p.store G.shadow.done s.config.threads (Some m.thread)
    calm_then = record {
      invariants = w.calm.invariants;
      frames = λ u q.
          subst (λ (z : Bool). FrameIsCalm program (layer + 1) p.store z (frame_at program (layer + 1) s.config.threads u)) (sym (done_other s.shadow.done m.thread A.done u (λ x. q (ap Some (sym x))))) (w.calm.frames u q);
    }

    merged_is : p.store ≡ merged program layer d.store G.shadow.store
    merged_is =
        sym (merged_itself program layer s.config.store p.store w.old)
        ∙ (ap (merged program layer s.config.store) (sym store_is) ∙ ap (λ (z : Store). merged program layer z G.shadow.store) (sym stays))

    step_in_loop : says f.0 (inputs_of f.0 f.1.locals) p.store p.done (outs_in f.0 p.locals) → Result
    step_in_loop so =
        leaves_open keep program layer store G m d (record { checked = r.checked; moves = r.moves; are = r.are; runs = r.runs }) mv e (Some f) now p.store calm_then (subst (IsStore program.globals) (sym store_is) w.fits) new there_now f.0 frame framed_now
        (cut_number f.0 n) K B (n + 1) (record { place = in_loop.0; state = beginning B })
        (subst (λ (z : Store). IsOpen program (layer + 1) f.1.procedure (cut_number f.0 n) f.0 K B (n + 1) (record { place = in_loop.0; state = beginning B }) z frame) (sym stays) in_loop.2)
        refl
        (ap (λ (z : Store). record { store = z; locals = p.locals; done = p.done; again = false }) merged_is
        ∙ (ap (λ (ls : List Value). record { store = merged program layer d.store G.shadow.store; locals = ls; done = p.done; again = false }) w.locals
        ∙ ap (λ (x : Bool). record { store = merged program layer d.store G.shadow.store; locals = f.1.locals; done = x; again = false }) (sym (done_own s.shadow.done m.thread A.done ∙ ap (λ (x : Progress). x.done) all_is))))
        refl (apart keep program layer store s m.thread f r thread there framed n st k p w) says (subst (λ (is : List Value). says f.0 is p.store p.done (outs_in f.0 p.locals)) (sym (ap (inputs_of f.0) w.locals)) so)

  -- ---- from a yield

  module _ (n : ℕ) (st : Stmt) (k : Rest) (p : Progress) (begins : WaitsAtYield program layer s m.thread f n st k p) (away : at_yield k ≡ false) where
    step_open : says f.0 (inputs_of f.0 f.1.locals) p.store p.done (outs_in f.0 p.locals) → Result
    step_open so =
        open_blocks_leave keep in_roots program layer store G m d (record { checked = r.checked; moves = r.moves; are = r.are; runs = r.runs }) mv e
        (block keep program layer store s m.thread f r thread there framed n st k p begins away) (ap at_yield (rest_is keep program layer store s m.thread f r thread there framed n st k p begins) ∙ away)
        says (subst (λ (is : List Value). says f.0 is p.store p.done (outs_in f.0 p.locals)) (sym (ap (inputs_of f.0) begins.waits.locals)) so)

  -- ---- at the end of the chain

  at_end : ChainEnds says program layer s m.thread f → Result
  at_end (inl x) = step_open x.n x.st x.k x.p x.begins x.away x.so
  at_end (inr x) = step_in_loop x.n x.st x.k x.p x.waits x.form x.head x.shown x.glide x.so

-- what is said of the yield is said of where the block began, where blocks keep it
pub yields_leave : ActionsKeepPermissions → SpawnsAreInRoots → (program : Program) (layer : ℕ) (store : Store) (s : Shadowed) (m : Move) (d : Config) (f : Proc × Activation) → IsReached program layer store s.config → IsMove m → step_of (program_at program layer) s.config m ≡ (answer.Moved, d)
    → AllIsCalm program layer s → is_challenged program layer s ≡ false → frame_at program (layer + 1) s.config.threads m.thread ≡ Some f → at_yield (rest_of f) ≡ true
    → (stops : Store → List Value → Type 0) → ((x : Store) → StopsAt (course_of program layer f.0) (settled (rest_of f)) (progress_in program layer m.thread s.config.store s.shadow f.1) x → stops x f.1.locals)
    → (says : Proc → List Value → Store → Bool → List Value → Type 0) → BlocksKeep stops says program layer f.1.procedure f.0 → says f.0 (inputs_of f.0 f.1.locals) (seen program layer s) (s.shadow.done m.thread) (outs_in f.0 f.1.locals)
    → LeavesSo says program layer s.config (stepped program layer (record { config = s.config; shadow = before_step program layer m.thread s.config s.shadow }) m d) m.thread
yields_leave keep in_roots program layer store s m d f r mv e calm unchallenged now yields stops all says keeps so =
    let z = thread_of program (layer + 1) s.config.threads m.thread f now in
    subst (λ (x : Shadow). LeavesSo says program layer s.config (stepped program layer (record { config = s.config; shadow = x }) m d) m.thread)
    (sym (ap (before_frame program layer m.thread s.config.store s.shadow) now
    ∙ ap (λ (x : Bool). if x then shadow_with s.shadow m.thread (glided (course_of program layer f.0) (settled (rest_of f)) (progress_in program layer m.thread s.config.store s.shadow f.1)) else s.shadow) yields))
    (at_end keep in_roots program layer store s m d f r mv e z.0 z.1 z.2 says
    (chain_ends keep program layer store s m.thread f r z.0 z.1 z.2 stops all says keeps calm unchallenged yields so))

pub yields_step : ActionsKeepPermissions → SpawnsAreInRoots → YieldsStep
yields_step keep in_roots program layer store s m d f r mv e calm unchallenged now yields =
    leaves_it program layer s.config (stepped program layer (record { config = s.config; shadow = before_step program layer m.thread s.config s.shadow }) m d) m.thread
    (yields_leave keep in_roots program layer store s m d f r mv e calm unchallenged now yields (λ x ls. Unit {0}) (λ x h. tt) nothing_said (λ c cut b end p assumed concludes ends done fits sorts stops so. so) tt)
