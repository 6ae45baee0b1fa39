-- A call that makes a frame opens a block, where all is calm and nothing is challenged.
use Rattle.std.proofs.Common.{◌≡◌, ◌≢◌, ℕ, ◌+◌, ◌-◌, ◌≤◌, Bool, true, false, List, [], ◌++◌, length, drop, map, get_or, Contains, Option, None, Some, slice_get, slice_set, refl, sym, ap, ◌∙◌, subst, arith}
use Rattle.std.specs.Prelude.{option_map, if◌then◌else◌}
use Rattle.std.proofs.lemmas.Bool.{or_parts, not-false}
use Rattle.std.proofs.lemmas.Option.{same_Some, none-some}
use Rattle.std.proofs.lemmas.List.{length-map}
use Rattle.civl_bits.specs.declared.value.Value.{Value}
use Rattle.civl_firing.specs.values.Values.{HaveSorts, is_true}
use Rattle.civl_tree.specs.declared.program.Proc.{Proc}
use Rattle.civl_tree.specs.declared.program.Refines.{Refines}
use Rattle.civl_tree.specs.declared.program.Program.{Program}
use Rattle.civl_tree.specs.rules.Names.{names_in_proc}
use Rattle.civl_firing.specs.declared.store.Store.{Store}
use Rattle.civl_firing.specs.Stores.{IsStore}
use Rattle.civl_firing.specs.Scope.{frame_values, zeros_of_params, zeros_of_locals}
use Rattle.civl_meaning.specs.declared.config.Activation.{Activation}
use Rattle.civl_meaning.specs.declared.config.Move.{Move}
use Rattle.civl_meaning.specs.declared.config.Plain.{Plain}
use Rattle.civl_meaning.specs.declared.config.State.{State}
use Rattle.civl_meaning.specs.declared.config.State.TheVariants.{Before, Inside, After}
use Rattle.civl_meaning.specs.declared.config.Running.{Running}
use Rattle.civl_meaning.specs.declared.config.Config.{Config}
use Rattle.civl_meaning.specs.declared.config.Stepped.{Stepped}
use Rattle.civl_meaning.specs.declared.config.Stepped.TheVariants as answer
use Rattle.civl_meaning.specs.declared.config.Change.{Change}
use Rattle.civl_meaning.specs.declared.config.Change.TheVariants as change
use Rattle.civl_meaning.specs.Permissions.{pairwise_disjoint}
use Rattle.civl_meaning.specs.Meaning.{Meaning, Does, Runs, Missing, called}
use Rattle.civl_meaning.specs.Places.{Spot, spot_at}
use Rattle.civl_firing.specs.declared.firing.Fired.{Fired}
use Rattle.civl_firing.specs.declared.firing.Fired.TheVariants as fire
use Rattle.civl_firing.specs.Fired.{gate_holds, choices_fit, fired}
use Rattle.civl_firing.specs.Eval.{value_of, values_of}
use Rattle.civl_firing.proofs.Having.{have_length}
use Rattle.civl_tree.specs.declared.name.Name.{Name}
use Rattle.civl_tree.specs.declared.stmt.Stmt.{Stmt, out-Stmt}
use Rattle.civl_tree.specs.declared.stmt.Stmt.TheOpen as stmt
use Rattle.civl_conditions.specs.Steps.{has_layer}
use Rattle.civl_layers.specs.Layered.{IsLayered}
use Rattle.civl_meaning.specs.Change.{acted, done_by, call_doing, statement_doing, spot_doing, proc_doing, state_doing, change_of, caller_of, outs_in, returned, Doing, doing}
use Rattle.civl_meaning.specs.Step.{thread_after, state_after, enters, goes_on, config_after, step_with, step_in, step_of}
use Rattle.civl_meaning.specs.Failing.{IsMove}
use Rattle.civl_meaning.specs.Layers.{program_at}
use Rattle.civl_meaning.specs.Config.{IsStacked, StateIsStacked, AreWaiting}
use Rattle.civl_meaning.proofs.Bindings.{frame_length}
use Rattle.civl_soundness.proofs.Fitting.{all_at}
use Rattle.civl_layers.specs.declared.cut.Cut.{Cut}
use Rattle.civl_layers.specs.Cuts.{entry_cut, cuts_below}
use Rattle.civl_conditions.specs.footprints.Agreement.{StoresAgree, exists_at}
use Rattle.civl_conditions.specs.Invariants.{invariants_hold}
use Rattle.civl_conditions.specs.Values.{Begun}
use Rattle.civl_conditions.specs.Variables.{passed_choices}
use Rattle.civl_tree.specs.declared.action.Choice.{Choice}
use Rattle.civl_tree.proofs.Bools.{five}
use Rattle.civl_conditions.specs.Permissions.{in_store, held_at, of_held}
use Rattle.civl_conditions.specs.Assumed.{inputs_of, owned}
use Rattle.civl_condition_laws.specs.States.{frame_sorts, IsBegun, IsCutOf}
use Rattle.civl_condition_laws.proofs.Standing.{sorts_apart}
use Rattle.civl_linear.specs.Cuts.{held_numbers, held_under}
use Rattle.civl_linear.specs.Held.{entry_held}
use Rattle.civl_reduction.specs.permissions.Owned.{of_flagged, held_before}
use Rattle.civl_reduction.proofs.permissions.Counting.{carriers}
use Rattle.civl_reduction.proofs.permissions.Changing.{owns}
use Rattle.civl_reduction.proofs.permissions.Threads.{locals_count}
use Rattle.civl_reduction.proofs.permissions.Staying.{IsKept}
use Rattle.civl_reduction.specs.checked.Checked.{ActionsKeepPermissions}
use Rattle.civl_meaning.specs.Change as does
use Rattle.civl_reduction.specs.blocks.Blocks.{framed_in, framed_state, frame_of_layer}
use Rattle.civl_reduction.specs.open_blocks.Ends.{IsAssumed}
use Rattle.civl_reduction.specs.open_blocks.Open.{beginning}
use Rattle.civl_reduction.proofs.open_blocks.Open.Choices.{choices_are_there}
use Rattle.civl_reduction.proofs.open_blocks.Open.Opening.{blocks_open_at_entries}
use Rattle.civl_reduction.specs.blocks.Cuts.{frame_in, frame_at}
use Rattle.civl_reduction.specs.blocks.Shadow.{Shadowed, merged, seen, begun_with}
use Rattle.civl_reduction.specs.blocks.Challenged.{allows, refuses, call_challenged, is_challenged}
use Rattle.civl_reduction.specs.staged.Pausing.{StandsAt}
use Rattle.civl_reduction.proofs.staged.Pausing.Cutting.{Topmost, topmost}
use Rattle.civl_reduction.proofs.staged.Pausing.Holding.{numbers_flagged}
use Rattle.civl_reduction.proofs.staged.Pausing.Apart.{run_is_kept, known, frame_owned, pause_owned, apart_of_two}
use Rattle.civl_reduction.proofs.blocks.Merged.Merging.{merged_fit, merged_carry, same_old}
use Rattle.civl_reduction.specs.staged.Calm.{FrameIsCalm, IsCalm, AllIsCalm}
use Rattle.civl_reduction.proofs.staged.Calm.Stepping.{Leaves, spawned_before, pushed_frame}
use Rattle.civl_reduction.proofs.staged.Calm.Stepping as stepping
use Rattle.civl_reduction.proofs.staged.Calm.Outside.{thread_of, done_other}
use Rattle.civl_reduction.specs.staged.Opened.{BlockIsOpen, StandsThere, stepped, IsReached, CallsOpenBlocks}
use Rattle.civl_reduction.proofs.staged.Opened.Beginning.{BeganSo, nothing_said}
use Rattle.civl_reduction.proofs.staged.Opened.Next.{next_kept, done_own, opens}
use Rattle.civl_reduction.proofs.staged.Opened.Forms.{back_outside}
use Rattle.civl_reduction.proofs.staged.Opened.Stepping.{same_layer, set_same, framed_there}
use Rattle.civl_reduction.proofs.staged.Opened.Round.{one_apart}
use Rattle.civl_reduction.proofs.staged.Opened.Entering.{MakesNew, makes_new, not_challenged, held_first, rest_is_zeros}

abbrev entered : Activation × ℕ → Change → Activation × ℕ
entered d (change.Enters x y) = (x, y)
entered d _ = d

-- what enters does so by a call
enters_so : (plain : Plain) (store : Store) (chosen : List Value) (D : Doing) (frame : Activation) (place : ℕ) → done_by plain store chosen D ≡ change.Enters frame place → D ≡ does.Enters frame place
enters_so plain store chosen (does.Enters f p) frame place e = ap (λ (x : Activation × ℕ). does.Enters x.0 x.1) (ap (entered (f, p)) e)
enters_so plain store chosen does.Fails frame place e = absurd cc
enters_so plain store chosen does.Waits frame place e = absurd cc
enters_so plain store chosen does.Ends frame place e = absurd cc
enters_so plain store chosen (does.Goes ls next) frame place e = absurd cc
enters_so plain store chosen (does.Leaves f) frame place e = absurd cc
enters_so plain store chosen (does.Spawns other next) frame place e = absurd cc
enters_so plain store chosen (does.Calls ns ls rs next action args) frame place e = absurd (acts_no_frame (gate_holds plain.program.globals store action args) (choices_fit action chosen) (fired plain.program.globals store action args chosen) e)
  where
    acts_no_frame : (b c : Bool) (x : Fired) → (if b then (if c then acted ns ls rs next x else change.Stays answer.BadChoices) else change.Stays answer.Failing) ≡ change.Enters frame place → ⊥
    acts_no_frame true true fire.GateFalse k = cc
    acts_no_frame true true fire.Blocked k = cc
    acts_no_frame true true (fire.Moved s outs) k = cc
    acts_no_frame true false x k = cc
    acts_no_frame false c x k = cc

module _ (program : Program) (layer : ℕ) where
  -- a thread that stays in its frames has no new one
  same_frame : (state : State) (ls : List Value) (place : ℕ) → framed_state program (layer + 1) state ≡ None → framed_state program (layer + 1) (goes_on state ls place) ≡ None
  same_frame Before ls place e = refl
  same_frame After ls place e = refl
  same_frame (Inside below f) ls place e = by_proc (slice_get program.procs f.procedure) e
    where
      by_test : (p : Proc) (b : Bool) → if◌then◌else◌ {A = Option (Proc × Activation)} b (Some (p, f)) None ≡ None → if◌then◌else◌ {A = Option (Proc × Activation)} b (Some (p, record { procedure = f.procedure; place = place; locals = ls })) None ≡ None
      by_test p true h = absurd (none-some (p, f) (sym h))
      by_test p false h = refl

      by_proc : (o : Option Proc) → framed_in (layer + 1) f o ≡ None → framed_in (layer + 1) (record { procedure = f.procedure; place = place; locals = ls }) o ≡ None
      by_proc None h = refl
      by_proc (Some p) h = by_test p (has_layer (layer + 1) p) h

-- what a step that makes a frame is
pub record Called (program : Program) (layer : ℕ) (s : Shadowed) (m : Move) (d : Config) (f : Proc × Activation) : Type 0 where
  pub thread : Running
  pub there : slice_get s.config.threads m.thread ≡ Some thread
  pub place : ℕ
  pub calls : doing (program_at program layer) thread ≡ does.Enters f.1 place
  pub store : d.store ≡ s.config.store
  pub new : Running
  pub now : slice_get d.threads m.thread ≡ Some new
  pub framed : frame_of_layer program (layer + 1) new ≡ Some f

-- no statement removes its frame
abbrev StaysIn : Change → Type 0
StaysIn (change.Leaves k) = ⊥
StaysIn _ = Unit {0}

module _ (plain : Plain) (store : Store) (chosen : List Value) where
  in_assert : (b : Bool) (ls : List Value) (next : ℕ) → StaysIn (done_by plain store chosen (if b then does.Goes ls next else does.Fails))
  in_assert true ls next = tt
  in_assert false ls next = tt

  in_action : (b c : Bool) (x : Fired) (ns : List Name) (ls : List Value) (rs : List Name) (next : ℕ) → StaysIn (if b then (if c then acted ns ls rs next x else change.Stays answer.BadChoices) else change.Stays answer.Failing)
  in_action true true fire.GateFalse ns ls rs next = tt
  in_action true true fire.Blocked ns ls rs next = tt
  in_action true true (fire.Moved g outs) ns ls rs next = tt
  in_action true false x ns ls rs next = tt
  in_action false c x ns ls rs next = tt

  in_call : (ns : List Name) (ls : List Value) (rs : List Name) (at next : ℕ) (m : Meaning) (vs : List Value) → StaysIn (done_by plain store chosen (call_doing ns ls rs at next m vs))
  in_call ns ls rs at next (Does a) vs = in_action (gate_holds plain.program.globals store a vs) (choices_fit a chosen) (fired plain.program.globals store a vs chosen) ns ls rs next
  in_call ns ls rs at next (Runs n p) vs = tt
  in_call ns ls rs at next Missing vs = tt

  in_layer : (p : Proc) (ls : List Value) (at next : ℕ) (d : stmt.Stmt-F Stmt) → StaysIn (done_by plain store chosen (statement_doing plain p ls at next d))
  in_layer p ls at next (stmt.Assert e) = in_assert (is_true (value_of (frame_values plain.program.globals p ls) e)) ls next
  in_layer p ls at next (stmt.Call f es rs) = in_call (names_in_proc p) ls rs at next (called plain f) (values_of (frame_values plain.program.globals p ls) es)
  in_layer p ls at next _ = tt

  -- what leaves is at its exit
  leaves_by : (caller : Option Activation) (f : Activation) (o : Option Proc) (k : Option Activation) → done_by plain store chosen (proc_doing plain caller f o) ≡ change.Leaves k → (outs : List Value) × (change.Leaves (option_map (returned plain outs) caller) ≡ change.Leaves k)
  leaves_by caller f None k e = absurd cc
  leaves_by caller f (Some p) k e = by_spot (spot_at p.body f.place) e
    where
      by_spot : (x : Option Spot) → done_by plain store chosen (spot_doing plain caller f p x) ≡ change.Leaves k → (outs : List Value) × (change.Leaves (option_map (returned plain outs) caller) ≡ change.Leaves k)
      by_spot None q = (outs_in p f.locals, q)
      by_spot (Some s) q = absurd (subst StaysIn q (in_layer p f.locals s.number s.next (out-Stmt s.stmt)))

-- the frame of a thread by its state
top_or : Activation → State → Activation
top_or a (Inside y z) = z
top_or a _ = a

same_top : (x : State) (b : List Activation) (a : Activation) (c : List Activation) (g : Activation) → x ≡ Inside b a → x ≡ Inside c g → a ≡ g
unfolding top_or
same_top x b a c g p q = ap (top_or a) (sym p ∙ q)

module _ (program : Program) (layer : ℕ) (f : Proc × Activation) where
  top_frame : (a : Activation) (below : List Activation) → framed_in (layer + 1) a (slice_get program.procs a.procedure) ≡ Some f → a ≡ f.1
  top_frame a below q = let t = topmost program (layer + 1) (Inside below a) f q in same_top (Inside below a) below a t.below f.1 refl t.is

  entered_frame : (state : State) (frame : Activation) (place : ℕ) → framed_state program (layer + 1) (enters state frame place) ≡ Some f → frame ≡ f.1
  entered_frame Before frame place k = top_frame frame [] k
  entered_frame (Inside below g) frame place k = top_frame frame below k
  entered_frame After frame place k = absurd (none-some f k)

module _ (program : Program) (layer : ℕ) (layered : IsLayered program) (thread : Running) (store : Store) (chosen : List Value) where
  returned_none : (below : List Activation) (g : Activation) (outs : List Value) → AreWaiting (program_at program layer) below g → (c : Option Activation) → caller_of below ≡ c → (k : Option Activation) → change.Leaves (option_map (returned (program_at program layer) outs) c) ≡ change.Leaves k
      → framed_state program (layer + 1) (state_after (Inside below g) (change.Leaves k)) ≡ None
  returned_none below g outs w None q k e = subst (λ (x : Change). framed_state program (layer + 1) (state_after (Inside below g) x) ≡ None) e refl
  returned_none below g outs w (Some b) q k e = subst (λ (x : Change). framed_state program (layer + 1) (state_after (Inside below g) x) ≡ None) e (back_outside program layer layered below g b w q outs)

  back_none : (state : State) → StateIsStacked (program_at program layer) thread.callee state → (k : Option Activation) → done_by (program_at program layer) store chosen (state_doing (program_at program layer) thread state) ≡ change.Leaves k → framed_state program (layer + 1) (state_after state (change.Leaves k)) ≡ None
  back_none Before h k e = refl
  back_none After h k e = refl
  back_none (Inside below g) h k e =
      let l = leaves_by (program_at program layer) store chosen (caller_of below) g (slice_get program.procs g.procedure) k e in
      returned_none below g l.0 h.waiting (caller_of below) refl k l.1

called_so : (keep : ActionsKeepPermissions) (program : Program) (layer : ℕ) (store : Store) (s : Shadowed) (m : Move) (d : Config) (f : Proc × Activation) → IsReached program layer store s.config → step_of (program_at program layer) s.config m ≡ (answer.Moved, d)
    → frame_at program (layer + 1) s.config.threads m.thread ≡ None → frame_at program (layer + 1) d.threads m.thread ≡ Some f → Called program layer s m d f
called_so keep program layer store s m d f r e before after = by_change (change_of (program_at program layer) s.config.store m.choices left.thread) refl changed
  where
    left : Leaves (program_at program layer) s.config m d
    left = stepping.leaves (program_at program layer) s.config m d e

    outside : framed_state program (layer + 1) left.thread.state ≡ None
    outside = sym (ap (frame_in program (layer + 1)) left.there) ∙ before

    changed : step_with s.config m.thread left.thread (change_of (program_at program layer) s.config.store m.choices left.thread) ≡ (answer.Moved, d)
    changed = sym (ap (step_in (program_at program layer) s.config m) left.there) ∙ e

    stacked : IsStacked (program_at program layer) left.thread
    stacked = all_at (IsStacked (program_at program layer)) s.config.threads m.thread left.thread left.there (let h = run_is_kept keep program layer store r.checked r.moves s.config r.are r.runs in h.of_plain.stacked)

    -- the frame behind the change
    behind : (g : Change) → d.threads ≡ slice_set s.config.threads m.thread (thread_after left.thread g) → frame_of_layer program (layer + 1) (thread_after left.thread g) ≡ Some f
    behind g z = sym (ap (frame_in program (layer + 1)) (ap (λ (ts : List Running). slice_get ts m.thread) z ∙ set_same s.config.threads m.thread left.thread (thread_after left.thread g) left.there)) ∙ after

    by_change : (g : Change) → change_of (program_at program layer) s.config.store m.choices left.thread ≡ g → step_with s.config m.thread left.thread g ≡ (answer.Moved, d) → Called program layer s m d f
    by_change (change.Enters frame place) is x =
        let same : d ≡ config_after s.config m.thread left.thread (change.Enters frame place) = sym (ap (λ (z : Stepped × Config). z.1) x) in
        let framed = behind (change.Enters frame place) (ap (λ (c : Config). c.threads) same) in
        record {
          thread = left.thread;
          there = left.there;
          place = place;
          calls = enters_so (program_at program layer) s.config.store m.choices (doing (program_at program layer) left.thread) frame place is ∙ ap (λ (a : Activation). does.Enters a place) (entered_frame program layer f left.thread.state frame place framed);
          store = ap (λ (c : Config). c.store) same;
          new = thread_after left.thread (change.Enters frame place);
          now = ap (λ (c : Config). slice_get c.threads m.thread) same ∙ set_same s.config.threads m.thread left.thread (thread_after left.thread (change.Enters frame place)) left.there;
          framed = framed;
        }
    by_change (change.Goes ls place) is x =
        absurd (none-some f (sym (same_frame program layer left.thread.state ls place outside) ∙ behind (change.Goes ls place) (ap (λ (z : Stepped × Config). z.1.threads) (sym x))))
    by_change (change.Acts g ls place) is x =
        absurd (none-some f (sym (same_frame program layer left.thread.state ls place outside) ∙ behind (change.Acts g ls place) (ap (λ (z : Stepped × Config). z.1.threads) (sym x))))
    by_change (change.Leaves k) is x =
        absurd (none-some f (sym (back_none program layer (let c = r.checked in c.layered) left.thread s.config.store m.choices left.thread.state stacked k is) ∙ behind (change.Leaves k) (ap (λ (z : Stepped × Config). z.1.threads) (sym x))))
    by_change (change.Spawns o place) is x =
        absurd (none-some f (sym (spawn_none left.thread.state outside) ∙ (sym (pushed_frame program (layer + 1) (slice_set s.config.threads m.thread (thread_after left.thread (change.Spawns o place))) o m.thread (spawned_before (program_at program layer) s.config.store m.choices left.thread o place is)
        ∙ ap (frame_in program (layer + 1)) (set_same s.config.threads m.thread left.thread (thread_after left.thread (change.Spawns o place)) left.there))
        ∙ (ap (λ (z : Stepped × Config). frame_at program (layer + 1) z.1.threads m.thread) x ∙ after))))
      where
        spawn_none : (state : State) → framed_state program (layer + 1) state ≡ None → framed_state program (layer + 1) (state_after state (change.Spawns o place)) ≡ None
        spawn_none Before h = refl
        spawn_none After h = refl
        spawn_none (Inside below g) h = same_frame program layer (Inside below g) g.locals place h
    by_change (change.Stays a) is x = absurd (none-some f (sym before ∙ (ap (λ (z : Stepped × Config). frame_at program (layer + 1) z.1.threads m.thread) x ∙ after)))

-- the outputs among them have their sorts
pub outs_sorted : (proc : Proc) (locals : List Value) → HaveSorts locals (frame_sorts proc) → HaveSorts (outs_in proc locals) (map (λ p. p.sort) proc.outs)
outs_sorted proc locals h =
    let behind = (sorts_apart (map (λ p. p.sort) proc.params) (map (λ p. p.sort) proc.outs ++ map (λ l. l.sort) proc.locals) locals (length proc.params) (length-map proc.params (λ p. p.sort)) h).1 in
    (sorts_apart (map (λ p. p.sort) proc.outs) (map (λ l. l.sort) proc.locals) (drop (length proc.params) locals) (length proc.outs) (length-map proc.outs (λ p. p.sort)) behind).0

module _ (keep : ActionsKeepPermissions) (program : Program) (layer : ℕ) (store : Store) (s : Shadowed) (m : Move) (d : Config) (f : Proc × Activation) (r : IsReached program layer store s.config) (mv : IsMove m) (e : step_of (program_at program layer) s.config m ≡ (answer.Moved, d))
    (calm : AllIsCalm program layer s) (unchallenged : is_challenged program layer s ≡ false) (before : frame_at program (layer + 1) s.config.threads m.thread ≡ None) (after : frame_at program (layer + 1) d.threads m.thread ≡ Some f) where
  k : Called program layer s m d f
  k = called_so keep program layer store s m d f r e before after

  abbrev G : Store
  G = seen program layer s

  top : Topmost program (layer + 1) k.new.state f
  top = topmost program (layer + 1) k.new.state f k.framed

  d_kept : IsKept (program_at program layer) d
  d_kept = next_kept keep program layer store s.config d m r mv e

  s_kept : IsKept (program_at program layer) s.config
  s_kept = run_is_kept keep program layer store r.checked r.moves s.config r.are r.runs

  sorts : HaveSorts f.1.locals (frame_sorts f.0)
  sorts =
      let c = r.checked in
      let n = known program layer d c.layered c.linear d_kept m.thread k.new top.below f k.now top.is top.of.there in
      subst (λ (p : Proc). HaveSorts f.1.locals (frame_sorts p)) n.proc n.locals.locals

  made : MakesNew program (does.Enters f.1 k.place)
  made = subst (MakesNew program) k.calls (makes_new (program_at program layer) k.thread)

  proc_is : made.1 ≡ f.0
  proc_is = same_Some made.1 f.0 (sym made.3 ∙ (ap (slice_get program.procs) (sym (ap (λ (a : Activation). a.procedure) made.4)) ∙ top.of.there))

  at_start : f.1.place ≡ 0
  at_start = ap (λ (a : Activation). a.place) made.4

  locals_are : f.1.locals ≡ made.2 ++ (zeros_of_params f.0.outs ++ zeros_of_locals f.0.locals)
  locals_are = ap (λ (a : Activation). a.locals) made.4 ∙ ap (λ (p : Proc). made.2 ++ (zeros_of_params p.outs ++ zeros_of_locals p.locals)) proc_is

  zeros : drop (length f.0.params) f.1.locals ≡ zeros_of_params f.0.outs ++ zeros_of_locals f.0.locals
  zeros =
      ap (drop (length f.0.params)) locals_are
      ∙ rest_is_zeros f.0 made.2 (ap length (sym locals_are) ∙ (have_length f.1.locals (frame_sorts f.0) sorts ∙ frame_length f.0))

  -- the path's beginning
  choices : (chosen : ℕ → List Value) × ((number : ℕ) (cs : List Choice) → Contains (passed_choices program (layer + 1) f.0 entry_cut) (number, cs) → HaveSorts (chosen number) (map (λ c. c.sort) cs))
  choices = let c = r.checked in choices_are_there program (layer + 1) f.1.procedure f.0 entry_cut c.layered top.of

  abbrev b : Begun
  b = record { store = seen program layer s; locals = f.1.locals; done = false; old = seen program layer s; old_outs = outs_in f.0 f.1.locals; old_done = false; chosen = choices.0 }

  pub fits : IsStore program.globals (seen program layer s)
  fits = merged_fit program layer s.config.store s.shadow.store s_kept.of_plain.store calm.fits

  of_cut : IsCutOf program (layer + 1) f.1.procedure 0 f.0 entry_cut
  of_cut = record { of_proc = top.of; there = ap (λ (o : Option Refines). slice_get (cuts_below o f.0.body) 0) top.of.refined }

  begun : IsBegun program (layer + 1) f.0 entry_cut b
  begun = record {
    store = fits;
    locals = sorts;
    old = fits;
    old_outs = outs_sorted f.0 f.1.locals sorts;
    chosen = choices.1;
    begins = (record { rest = zeros; done = refl }, record { store = refl; outs = refl; done = refl });
  }

  allowed : allows program (seen program layer s) f.0 f.1.locals ≡ true
  allowed =
      let all = not_challenged program layer (seen program layer s) s.shadow.done s.config.threads m.thread k.thread unchallenged k.there in
      let one = (or_parts (call_challenged program (layer + 1) (seen program layer s) (doing (program_at program layer) k.thread)) _ all).0 in
      let two = sym (ap (call_challenged program (layer + 1) (seen program layer s)) k.calls) ∙ one in
      not-false (allows program (seen program layer s) f.0 f.1.locals) (sym (ap (refuses program (seen program layer s)) (framed_there program (layer + 1) f.1 f.0 top.of)) ∙ two)

  -- what is held at the entry the thread owns behind the call
  held_owned : (p : ℕ) → carriers p (of_held (held_at program f.0 0) f.1.locals) ≤ owns program k.new k.new.state p
  held_owned p =
      let c = r.checked in
      let count = have_length f.1.locals (frame_sorts f.0) sorts in
      let names = names_count in
      let one : carriers p (of_held (held_at program f.0 0) f.1.locals) ≡ carriers p (of_held (held_numbers 0 (names_in_proc f.0) (entry_held f.0)) f.1.locals) =
      ap (λ (o : Option Refines). carriers p (of_held (get_or (held_under program f.0 o) 0 []) f.1.locals)) top.of.refined in
      let two = numbers_flagged p f.1.locals (names_in_proc f.0) (entry_held f.0) f.1.locals 0 refl (omega (arith, names)) in
      let three : carriers p (of_flagged (held_before program f.0 f.1.place) f.1.locals) ≡ carriers p (of_flagged (entry_held f.0) f.1.locals) =
      ap (λ (n : ℕ). carriers p (of_flagged (held_before program f.0 n) f.1.locals)) at_start ∙ ap (λ (h : List Bool). carriers p (of_flagged h f.1.locals)) (held_first program f.0) in
      let four = frame_owned program layer d c.layered c.linear d_kept k.new top.below f top.is top.of.there p in
      omega (arith, one, two, three, four)
    where
      names_count : length f.1.locals ≡ length (names_in_proc f.0)
      names_count = locals_count f.0 f.1.locals sorts

  carried : in_store program (seen program layer s) ≡ in_store program d.store
  carried =
      let c = r.checked in let y = c.below in
      merged_carry program layer s.config.store s.shadow.store c.layered (omega (arith, y)) s_kept.of_plain.store calm.fits ∙ ap (in_store program) (sym k.store)

  disjoint : pairwise_disjoint (owned program f.0 0 b) ≡ true
  disjoint =
      subst (λ (ps : List (List ℕ)). pairwise_disjoint (ps ++ of_held (held_at program f.0 0) f.1.locals) ≡ true) (sym carried)
      (one_apart program layer d d_kept m.thread k.new k.now (of_held (held_at program f.0 0) f.1.locals) held_owned)

  apart : (u : ℕ) (q : Proc × Activation) (y : ℕ) (other : Cut) → u ≢ m.thread → frame_at program (layer + 1) s.config.threads u ≡ Some q → StandsAt program (layer + 1) q y other
      → pairwise_disjoint (owned program f.0 0 b ++ of_held (held_at program q.0 y) q.1.locals) ≡ true
  apart u q y other ne is at =
      let c = r.checked in
      let left = stepping.leaves (program_at program layer) s.config m d e in
      let z = thread_of program (layer + 1) d.threads u q (left.others (layer + 1) u ne ∙ is) in
      subst (λ (ps : List (List ℕ)). pairwise_disjoint ((ps ++ of_held (held_at program f.0 0) f.1.locals) ++ of_held (held_at program q.0 y) q.1.locals) ≡ true) (sym carried)
      (apart_of_two program layer d d_kept m.thread u k.new z.0 (λ x. ne (sym x)) k.now z.1 (of_held (held_at program f.0 0) f.1.locals) (of_held (held_at program q.0 y) q.1.locals) held_owned
      (pause_owned program layer d c.layered c.linear d_kept u z.0 q y other z.1 z.2 at))

  assumes : IsAssumed program (layer + 1) f.1.procedure 0 f.0 entry_cut b
  assumes = record {
    of_cut = of_cut;
    begun = begun;
    holds = five (invariants_hold program (layer + 1) (seen program layer s)) true (allows program (seen program layer s) f.0 f.1.locals) true (pairwise_disjoint (owned program f.0 0 b)) calm.calm.invariants refl allowed refl disjoint;
  }

  stores : StoresAgree (exists_at (layer + 1 - 1)) program.globals (seen program layer s) d.store
  stores =
      subst (λ (n : ℕ). StoresAgree (exists_at n) program.globals (seen program layer s) d.store) (sym (same_layer layer))
      (subst (λ (g : Store). StoresAgree (exists_at layer) program.globals (seen program layer s) g) (sym k.store) (same_old layer program.globals s.config.store.values s.shadow.store.values s_kept.of_plain.store calm.fits))

  calm_then : IsCalm program (layer + 1) (seen program layer s) (begun_with m.thread None s.shadow).done s.config.threads (Some m.thread)
  calm_then = record {
    invariants = calm.calm.invariants;
    frames = λ u n.
        subst (λ (z : Bool). FrameIsCalm program (layer + 1) (seen program layer s) z (frame_at program (layer + 1) s.config.threads u)) (sym (done_other s.shadow.done m.thread false u (λ q. n (ap Some (sym q)))))
        (calm.calm.frames u (λ q. none-some u q));
  }

  pub opens_so : (says : Proc → List Value → Store → Bool → List Value → Type 0) → says f.0 (inputs_of f.0 f.1.locals) (seen program layer s) false (outs_in f.0 f.1.locals)
      → (o : BlockIsOpen program layer (stepped program layer s m d) m.thread) × StandsThere o × BeganSo says o
  opens_so says so =
      opens keep program layer store s m d r mv e None before (seen program layer s) calm_then calm.fits k.new k.now f.0 f.1 k.framed 0 entry_cut b 0 (record { place = 0; state = beginning b })
      (blocks_open_at_entries program (layer + 1) f.1.procedure 0 f.0 entry_cut b d.store f.1 assumes refl (record { spot = ap (spot_at f.0.body) (sym at_start); locals = refl; stores = stores }))
      (sym at_start)
      (ap (λ (g : Store). record { store = merged program layer g s.shadow.store; locals = f.1.locals; done = false; again = false }) (sym k.store)
      ∙ ap (λ (z : Bool). record { store = merged program layer d.store s.shadow.store; locals = f.1.locals; done = z; again = false }) (sym (done_own s.shadow.done m.thread false)))
      refl apart says so

pub calls_open_blocks : ActionsKeepPermissions → CallsOpenBlocks
calls_open_blocks keep program layer store s m d f r mv e calm unchallenged before after =
    let o = opens_so keep program layer store s m d f r mv e calm unchallenged before after nothing_said tt in
    (o.0, o.1)
