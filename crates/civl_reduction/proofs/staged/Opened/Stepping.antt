-- A step of an open block's thread, before no cut: the block is open still.
use Rattle.std.proofs.Common.{◌≡◌, ◌≢◌, ℕ, zero, suc, ◌+◌, ◌-◌, Bool, true, false, List, [], ◌∷◌, ◌++◌, Option, None, Some, slice_get, slice_set, refl, sym, ap, ◌∙◌, subst, arith}
use Rattle.std.specs.Prelude.{IsTrue, if◌then◌else◌}
use Rattle.std.proofs.lemmas.Option.{same_Some, none-some}
use Rattle.civl_bits.specs.declared.value.Value.{Value}
use Rattle.civl_tree.specs.declared.program.Proc.{Proc}
use Rattle.civl_tree.specs.declared.program.Program.{Program}
use Rattle.civl_tree.specs.declared.stmt.Stmt.{out-Stmt}
use Rattle.civl_firing.specs.declared.store.Store.{Store}
use Rattle.civl_firing.specs.Fired.{fires}
use Rattle.civl_meaning.specs.declared.config.Activation.{Activation}
use Rattle.civl_meaning.specs.declared.config.Move.{Move}
use Rattle.civl_meaning.specs.declared.config.Plain.{Plain}
use Rattle.civl_meaning.specs.declared.config.State.{State}
use Rattle.civl_meaning.specs.declared.config.State.TheVariants.{Inside}
use Rattle.civl_meaning.specs.declared.config.Running.{Running}
use Rattle.civl_meaning.specs.declared.config.Config.{Config}
use Rattle.civl_meaning.specs.declared.config.Stepped.{Stepped}
use Rattle.civl_meaning.specs.declared.config.Stepped.TheVariants as answer
use Rattle.civl_meaning.specs.declared.config.Change.{Change}
use Rattle.civl_meaning.specs.declared.config.Change.TheVariants as change
use Rattle.civl_meaning.specs.Permissions.{pairwise_disjoint}
use Rattle.civl_meaning.specs.Places.{Spot, spot_at}
use Rattle.civl_meaning.specs.Change.{change_of, done_by, statement_doing}
use Rattle.civl_meaning.specs.Step.{thread_after, state_after, step_with, step_in, step_of}
use Rattle.civl_meaning.specs.Failing.{IsMove}
use Rattle.civl_meaning.specs.Layers.{program_at}
use Rattle.civl_meaning.specs.Config.{ThreadIsSorted, IsStacked, moved_frame}
use Rattle.civl_layers.specs.declared.cut.Cut.{Cut}
use Rattle.civl_soundness.proofs.Fitting.{all_at}
use Rattle.civl_conditions.specs.paths.Runs.{Standing}
use Rattle.civl_conditions.specs.paths.Seen.{IsProcOf}
use Rattle.civl_conditions.specs.Values.{Begun}
use Rattle.civl_reduction.specs.checked.Checked.{ActionsKeepPermissions, SpawnsAreInRoots}
use Rattle.civl_reduction.specs.blocks.Blocks.{framed_in, frame_of_layer}
use Rattle.civl_reduction.specs.open_blocks.Following.{cut_ahead, led_here, frame_does}
use Rattle.civl_reduction.specs.open_blocks.Open.{IsTopmost, IsOpen, StepStaysOpen, choosing}
use Rattle.civl_reduction.proofs.open_blocks.Open.Going.{thread_does, open_blocks_go_on}
use Rattle.civl_reduction.specs.blocks.Cuts.{frame_in, frame_at}
use Rattle.civl_reduction.specs.blocks.Shadow.{Shadowed, merged}
use Rattle.civl_reduction.specs.staged.Pausing.{StandsAt}
use Rattle.civl_reduction.proofs.staged.Pausing.Cutting.{Topmost, topmost}
use Rattle.civl_reduction.proofs.staged.Pausing.Apart.{kept, run_is_kept}
use Rattle.civl_reduction.proofs.permissions.Reaching.{are_writable, meant_begins}
use Rattle.civl_reduction.proofs.permissions.Calls.{before_owns, next_exists}
use Rattle.civl_layers.proofs.PlainPrograms.{layered_is_plain}
use Rattle.civl_layers.specs.Ranges.{exists_in}
use Rattle.civl_layers.specs.Names.{action_range}
use Rattle.civl_tree.specs.declared.action.Action.{Action}
use Rattle.civl_conditions.specs.Permissions.{held_at, of_held}
use Rattle.civl_conditions.specs.Assumed.{owned}
use Rattle.civl_conditions.proofs.Layered.{has_its_layer}
use Rattle.civl_reduction.proofs.permissions.Staying.{IsKept}
use Rattle.civl_reduction.proofs.blocks.Merged.Merging.{actions_act_as_there}
use Rattle.civl_reduction.proofs.staged.Calm.Stepping.{Fires, acts_so}
use Rattle.civl_reduction.specs.staged.Opened.{BlockIsOpen, stepped, IsReached}
use Rattle.civl_reduction.proofs.staged.Opened.Beginning.{BegunSo, BeganSo, LeavesSo}
use Rattle.civl_reduction.proofs.staged.Opened.Noting.{bare}
use Rattle.civl_reduction.proofs.staged.Opened.Concluding.{sound}
use Rattle.civl_reduction.proofs.staged.Opened.Next.{leaves_open}
use Rattle.civl_reduction.proofs.staged.Opened.Forms.{IsOwn, own_step}

-- ---- lists and threads

pub set_same : {A : Type 0} (xs : List A) (t : ℕ) (x y : A) → slice_get xs t ≡ Some x → slice_get (slice_set xs t y) t ≡ Some y
set_same [] t x y e = absurd (none-some x e)
set_same (z ∷ zs) zero x y e = refl
set_same (z ∷ zs) (suc t) x y e = set_same zs t x y e

-- a frame of a procedure of the layer is one
pub framed_there : (program : Program) (step : ℕ) (frame : Activation) (proc : Proc) → IsProcOf program frame.procedure step proc → framed_in step frame (slice_get program.procs frame.procedure) ≡ Some (proc, frame)
framed_there program step frame proc of =
    ap (framed_in step frame) of.there
    ∙ ap (λ (b : Bool). if◌then◌else◌ {A = Option (Proc × Activation)} b (Some (proc, frame)) None) (has_its_layer program frame.procedure step proc of)

-- one layer down and up again
pub same_layer : (layer : ℕ) → layer + 1 - 1 ≡ layer
same_layer layer = omega arith

module _ (keep : ActionsKeepPermissions) (in_roots : SpawnsAreInRoots) (program : Program) (layer : ℕ) (store : Store) (s : Shadowed) (m : Move) (d : Config) (r : IsReached program layer store s.config) (mv : IsMove m) (e : step_of (program_at program layer) s.config m ≡ (answer.Moved, d)) (o : BlockIsOpen program layer s m.thread) where
  abbrev plain : Plain
  plain = program_at program layer

  abbrev pub top : Topmost program (layer + 1) o.thread.state o.f
  top = topmost program (layer + 1) o.thread.state o.f o.framed

  pub h : IsKept (program_at program layer) s.config
  h = run_is_kept keep program layer store r.checked r.moves s.config r.are r.runs

  pub sorted : ThreadIsSorted (program_at program layer) o.thread
  sorted = all_at (ThreadIsSorted (program_at program layer)) s.config.threads m.thread o.thread o.there h.of_plain.sorted

  pub stacked : IsStacked (program_at program layer) o.thread
  stacked = all_at (IsStacked (program_at program layer)) s.config.threads m.thread o.thread o.there h.of_plain.stacked

  pub is_topmost : IsTopmost program (layer + 1) o.f.1.procedure o.thread o.f.1
  is_topmost = record {
    below = top.below;
    inside = top.is;
    procedure = refl;
    sorted = subst (λ (k : ℕ). ThreadIsSorted (program_at program k) o.thread) (sym (same_layer layer)) sorted;
    stacked = subst (λ (k : ℕ). IsStacked (program_at program k) o.thread) (sym (same_layer layer)) stacked;
  }

  -- the step is a change of the thread
  pub changed : step_with s.config m.thread o.thread (change_of (program_at program layer) s.config.store m.choices o.thread) ≡ (answer.Moved, d)
  changed = sym (ap (step_in (program_at program layer) s.config m) o.there) ∙ e

  pub now : frame_at program (layer + 1) s.config.threads m.thread ≡ Some o.f
  now = ap (frame_in program (layer + 1)) o.there ∙ o.framed

  -- ---- on to another place

  module _ (locals : List Value) (place : ℕ) (g : Change) (goes : thread_after o.thread g ≡ record { callee = o.thread.callee; args = o.thread.args; state = Inside top.below (moved_frame o.f.1 locals place) }) (threads : d.threads ≡ slice_set s.config.threads m.thread (thread_after o.thread g)) where
    abbrev new : Running
    new = record { callee = o.thread.callee; args = o.thread.args; state = Inside top.below (moved_frame o.f.1 locals place) }

    there_now : slice_get d.threads m.thread ≡ Some new
    there_now = ap (λ (ts : List Running). slice_get ts m.thread) threads ∙ (set_same s.config.threads m.thread o.thread (thread_after o.thread g) o.there ∙ ap (λ (x : Running). Some x) goes)

    framed_now : frame_of_layer program (layer + 1) new ≡ Some (o.f.0, moved_frame o.f.1 locals place)
    framed_now = framed_there program (layer + 1) (moved_frame o.f.1 locals place) o.f.0 (record { there = top.of.there; refines = top.of.refines; refined = top.of.refined; layered = top.of.layered })

    -- where the path goes on with the store of the configuration, with the shadow's values
    pub goes_open : (c : ℕ) (cut : Cut) (b : Begun) (bound : ℕ) (here : Standing) → IsOpen program (layer + 1) o.f.1.procedure c o.f.0 cut b bound here d.store (moved_frame o.f.1 locals place)
        → here.place ≡ place → bare here.state ≡ record { store = merged program layer d.store s.shadow.store; locals = locals; done = s.shadow.done m.thread; again = false } → b.old ≡ o.b.old
        → ((u : ℕ) (q : Proc × Activation) (y : ℕ) (other : Cut) → u ≢ m.thread → frame_at program (layer + 1) s.config.threads u ≡ Some q → StandsAt program (layer + 1) q y other
        → IsTrue (pairwise_disjoint (owned program o.f.0 c b ++ of_held (held_at program q.0 y) q.1.locals)))
        → (says : Proc → List Value → Store → Bool → List Value → Type 0) → BegunSo says o.f.0 b → LeavesSo says program layer s.config (stepped program layer s m d) m.thread
    goes_open c cut b bound here opened at state was apart says so =
        leaves_open keep program layer store s m d r mv e (Some o.f) now o.b.old o.calm o.fits new there_now o.f.0 (moved_frame o.f.1 locals place) framed_now c cut b bound here opened at state was apart says so

  -- ---- a step before no cut

  module _ (away : cut_ahead o.f.0.body o.here.place ≡ None) (sp : Spot) (spot : spot_at o.f.0.body o.f.1.place ≡ Some sp) where
    lower_is : program_at program (layer + 1 - 1) ≡ program_at program layer
    lower_is = ap (program_at program) (same_layer layer)

    stays : StepStaysOpen program (layer + 1) o.f.1.procedure o.c o.f.0 o.cut o.b o.bound o.here s.config.store o.f.1 sp m.choices (change_of (program_at program layer) s.config.store m.choices o.thread)
    stays =
        subst (λ (p : Plain). StepStaysOpen program (layer + 1) o.f.1.procedure o.c o.f.0 o.cut o.b o.bound o.here s.config.store o.f.1 sp m.choices (change_of p s.config.store m.choices o.thread)) lower_is
        (open_blocks_go_on program (layer + 1) o.f.1.procedure o.c o.f.0 o.cut o.b o.bound o.here s.config.store o.f.1 o.thread m.choices sp (sound program layer store r.checked) o.opened is_topmost mv away spot)

    -- the thread does what its frame does
    does : (g : Store) → change_of (program_at program layer) g m.choices o.thread ≡ done_by (program_at program layer) g m.choices (statement_doing (program_at program layer) o.f.0 o.f.1.locals sp.number sp.next (out-Stmt sp.stmt))
    does g =
        subst (λ (p : Plain). change_of p g m.choices o.thread ≡ done_by p g m.choices (statement_doing p o.f.0 o.f.1.locals sp.number sp.next (out-Stmt sp.stmt))) lower_is
        (thread_does program (layer + 1) o.f.1.procedure o.f.0 o.thread o.f.1 top.of.there is_topmost g m.choices sp spot)

    own : IsOwn (change_of (program_at program layer) s.config.store m.choices o.thread)
    own = subst IsOwn (sym (does s.config.store)) (let c = r.checked in own_step program layer c.layered (in_roots program c.yields) o.f.1.procedure o.f.0 top.of s.config.store m.choices o.f.1.locals o.f.1.place sp spot)

    -- what an action does to the store with the shadow's values
    acts_there : (after inner : Store) (ls os : List Value) (place k : ℕ) → change_of (program_at program layer) s.config.store m.choices o.thread ≡ change.Acts after ls place
        → change_of (program_at program layer) (merged program layer s.config.store s.shadow.store) m.choices o.thread ≡ change.Acts inner os k → inner ≡ merged program layer after s.shadow.store
    acts_there after inner ls os place k one two =
        let f = acts_so (program_at program layer) s.config.store m.choices o.thread after ls place one in
        let g = acts_so (program_at program layer) (merged program layer s.config.store s.shadow.store) m.choices o.thread inner os k two in
        let same : ◌≡◌ {A = Action × List Value} (f.action, f.args) (g.action, g.args) = same_Some (f.action, f.args) (g.action, g.args) (sym f.next ∙ g.next) in
        let c = r.checked in
        let there = acted_there f in
        let fired : fires program.globals (merged program layer s.config.store s.shadow.store) f.action f.args m.choices ≡ Some (inner, g.outs) =
        ap (λ (x : Action × List Value). fires program.globals (merged program layer s.config.store s.shadow.store) x.0 x.1 m.choices) same ∙ g.fires in
        ap (λ (x : Store × List Value). x.0) (same_Some (inner, g.outs) (merged program layer after s.shadow.store, f.outs) (sym fired ∙ there after f.outs f.fires))
      where
        acted_there : {after : Store} (f : Fires (program_at program layer) s.config.store m.choices o.thread after) → (next : Store) (outs : List Value) → fires program.globals s.config.store f.action f.args m.choices ≡ Some (next, outs)
            → fires program.globals (merged program layer s.config.store s.shadow.store) f.action f.args m.choices ≡ Some (merged program layer next s.shadow.store, outs)
        acted_there f =
            let c = r.checked in
            let l = called_there f in
            (actions_act_as_there program layer l.0 s.config.store s.shadow.store f.action f.args m.choices c.layered l.1 l.2 h.of_plain.store o.fits).fires
          where
            called_there : {next : Store} (x : Fires (program_at program layer) s.config.store m.choices o.thread next) → (number : ℕ) × (slice_get program.actions number ≡ Some x.action) × (exists_in layer (action_range x.action) ≡ true)
            called_there x =
                let k = r.checked in
                let b = k.below in
                let q = before_owns program layer s.config k.linear (are_writable program k.written) (layered_is_plain program k.layered layer) (kept keep program layer store k) h m.thread (record { action = x.action; inputs = x.args; chosen = [] }) (record { thread = o.thread; there = o.there; next = x.next }) in
                let n = meant_begins program k.layered layer x.action q.meant_so in
                (n.0, n.1, next_exists program k.layered layer (omega (arith, b)) (in_roots program k.yields) k.linear o.thread sorted stacked x.action x.args x.next)

    -- what is said of its beginning stays
    module _ (says : Proc → List Value → Store → Bool → List Value → Type 0) (so : BeganSo says o) where
      by_change : (g : Change) → change_of (program_at program layer) s.config.store m.choices o.thread ≡ g → IsOwn g → step_with s.config m.thread o.thread g ≡ (answer.Moved, d)
          → StepStaysOpen program (layer + 1) o.f.1.procedure o.c o.f.0 o.cut o.b o.bound o.here s.config.store o.f.1 sp m.choices g → LeavesSo says program layer s.config (stepped program layer s m d) m.thread
      by_change (change.Goes locals place) is fine x on =
          let same = sym (ap (λ (z : Stepped × Config). z.1) x) in
          goes_open locals place (change.Goes locals place) (after_is (change.Goes locals place)) (ap (λ (c : Config). c.threads) same)
          o.c o.cut (choosing o.b on.chosen) on.later on.next
          (subst (λ (z : Store). IsOpen program (layer + 1) o.f.1.procedure o.c o.f.0 o.cut (choosing o.b on.chosen) on.later on.next z (moved_frame o.f.1 locals place)) (sym (ap (λ (c : Config). c.store) same)) on.opened)
          on.place
          (ap bare on.state ∙ (ap (λ (z : Store). record { store = z; locals = locals; done = H_done; again = false }) (o.store ∙ ap (λ (z : Store). merged program layer z s.shadow.store) (sym (ap (λ (c : Config). c.store) same))) ∙ ap (λ (b : Bool). record { store = merged program layer d.store s.shadow.store; locals = locals; done = b; again = false }) o.done))
          refl o.apart says so
        where
          H_done : Bool
          H_done = (led_here program (layer + 1) o.f.0 o.here).done

          after_is : (g : Change) → thread_after o.thread (change.Goes locals place) ≡ record { callee = o.thread.callee; args = o.thread.args; state = Inside top.below (moved_frame o.f.1 locals place) }
          after_is g = ap (λ (x : State). record { callee = o.thread.callee; args = o.thread.args; state = state_after x (change.Goes locals place) }) top.is
      by_change (change.Acts after locals place) is fine x on =
          let same = sym (ap (λ (z : Stepped × Config). z.1) x) in
          let inner_is : on.0 ≡ merged program layer after s.shadow.store = acts_there after on.0 locals locals place place is (inner_does on.0 on.1) in
          goes_open locals place (change.Acts after locals place) (ap (λ (x : State). record { callee = o.thread.callee; args = o.thread.args; state = state_after x (change.Acts after locals place) }) top.is) (ap (λ (c : Config). c.threads) same)
          o.c o.cut (choosing o.b on.2.chosen) on.2.later on.2.next
          (subst (λ (z : Store). IsOpen program (layer + 1) o.f.1.procedure o.c o.f.0 o.cut (choosing o.b on.2.chosen) on.2.later on.2.next z (moved_frame o.f.1 locals place)) (sym (ap (λ (c : Config). c.store) same)) on.2.opened)
          on.2.place
          (ap bare on.2.state ∙ (ap (λ (z : Store). record { store = z; locals = locals; done = (led_here program (layer + 1) o.f.0 o.here).done; again = false }) (inner_is ∙ ap (λ (z : Store). merged program layer z s.shadow.store) (sym (ap (λ (c : Config). c.store) same))) ∙ ap (λ (b : Bool). record { store = merged program layer d.store s.shadow.store; locals = locals; done = b; again = false }) o.done))
          refl o.apart says so
        where
          inner_does : (inner : Store) → frame_does program (layer + 1) o.f.0 (led_here program (layer + 1) o.f.0 o.here).store m.choices o.f.1 sp ≡ change.Acts inner locals place
              → change_of (program_at program layer) (merged program layer s.config.store s.shadow.store) m.choices o.thread ≡ change.Acts inner locals place
          inner_does inner k =
              does (merged program layer s.config.store s.shadow.store)
              ∙ (ap (λ (p : Plain). done_by p (merged program layer s.config.store s.shadow.store) m.choices (statement_doing p o.f.0 o.f.1.locals sp.number sp.next (out-Stmt sp.stmt))) (sym lower_is)
              ∙ (ap (λ (g : Store). frame_does program (layer + 1) o.f.0 g m.choices o.f.1 sp) (sym o.store) ∙ k))
      by_change (change.Stays a) is fine x on = absurd (fine (ap (λ (z : Stepped × Config). z.0) x))
      by_change (change.Enters frame place) is fine x on = absurd fine
      by_change (change.Leaves frame) is fine x on = absurd fine
      by_change (change.Spawns thread place) is fine x on = absurd fine

      pub step_away : LeavesSo says program layer s.config (stepped program layer s m d) m.thread
      step_away = by_change (change_of (program_at program layer) s.config.store m.choices o.thread) refl own changed stays
