-- In a configuration that is reached what is held at the yield of one thread is apart from what another owns.
use Rattle.std.proofs.Common.{◌≡◌, ◌≢◌, ℕ, ◌+◌, ◌≤◌, true, List, ◌++◌, sym, ap, ◌∙◌, subst, arith, Option, Some, slice_get}
use Rattle.std.specs.Prelude.{flat_map, length, All}
use Rattle.civl_tree.specs.Numbering.{sizes_of}
use Rattle.civl_tree.specs.rules.Names.{names_in_proc}
use Rattle.std.proofs.lemmas.Option.{same_Some}
use Rattle.civl_tree.specs.declared.action.Action.{Action}
use Rattle.civl_tree.specs.declared.program.Proc.{Proc}
use Rattle.civl_tree.specs.declared.program.Program.{Program}
use Rattle.civl_tree.specs.rules.Rules.{Keeps}
use Rattle.civl_firing.specs.declared.store.Store.{Store}
use Rattle.civl_meaning.specs.declared.config.Move.{Move}
use Rattle.civl_meaning.specs.declared.config.Plain.{Plain}
use Rattle.civl_meaning.specs.declared.config.Activation.{Activation}
use Rattle.civl_meaning.specs.declared.config.State.{State}
use Rattle.civl_meaning.specs.declared.config.State.TheVariants.{Inside}
use Rattle.civl_meaning.specs.declared.config.Running.{Running}
use Rattle.civl_meaning.specs.declared.config.Config.{Config}
use Rattle.civl_meaning.specs.Permissions.{pairwise_disjoint, of_globals}
use Rattle.civl_meaning.specs.Layers.{program_at}
use Rattle.civl_meaning.specs.Step.{start}
use Rattle.civl_meaning.specs.Run.{RunsTo}
use Rattle.civl_meaning.specs.Failing.{IsMove}
use Rattle.civl_meaning.specs.Config.{HasLocals, IsStack, StateIsSorted, StateIsStacked, ThreadIsSorted, IsStacked}
use Rattle.civl_layers.specs.declared.cut.Cut.{Cut}
use Rattle.civl_layers.specs.Layered.{IsLayered}
use Rattle.civl_layers.proofs.PlainPrograms.{layered_is_plain}
use Rattle.civl_linear.specs.LinearRules.{linear_rules}
use Rattle.civl_soundness.proofs.Fitting.{all_at}
use Rattle.civl_conditions.specs.paths.Ends.{cut_number}
use Rattle.civl_conditions.specs.Permissions.{of_inputs, held_at, of_held}
use Rattle.civl_reduction.specs.permissions.Owned.{owned, of_frame, of_locals, of_flagged, held_before, held_during}
use Rattle.civl_reduction.specs.permissions.Stay.{KeepsPermissions}
use Rattle.civl_reduction.proofs.permissions.Counting.{carriers, carriers_joined, counts_of, disjoint_by}
use Rattle.civl_reduction.proofs.permissions.Changing.{Meant, owns}
use Rattle.civl_reduction.proofs.permissions.Threads.{locals_count}
use Rattle.civl_reduction.proofs.permissions.Staying.{IsKept, run_kept}
use Rattle.civl_reduction.proofs.permissions.Reaching.{are_writable, meant_begins, start_kept}
use Rattle.civl_reduction.proofs.permissions.Calls.{before_owns, two_own}
use Rattle.civl_reduction.specs.checked.Checked.{IsChecked, ActionsKeepPermissions}
use Rattle.civl_reduction.specs.blocks.Blocks.{frame_of_layer, rest_of}
use Rattle.civl_reduction.specs.staged.Pausing.{StandsAt, PausesAreApart}
use Rattle.civl_reduction.proofs.staged.Pausing.Cutting.{topmost}
use Rattle.civl_reduction.proofs.staged.Pausing.Holding.{Skips, settled_skips, cut_owned}

-- ---- two threads

-- what owns no more than a thread does and what owns no more than another, with the linear globals
pub apart_of_two : (program : Program) (layer : ℕ) (config : Config) → IsKept (program_at program layer) config → (t u : ℕ) (one other : Running) → t ≢ u → slice_get config.threads t ≡ Some one → slice_get config.threads u ≡ Some other
    → (first second : List (List ℕ)) → ((p : ℕ) → carriers p first ≤ owns program one one.state p) → ((p : ℕ) → carriers p second ≤ owns program other other.state p)
    → pairwise_disjoint ((of_globals program.globals config.store.values ++ first) ++ second) ≡ true
apart_of_two program layer config h t u one other n e f first second low high = disjoint_by ((of_globals program.globals config.store.values ++ first) ++ second) (λ p.
    let all = counts_of (of_globals program.globals config.store.values ++ flat_map (owned program) config.threads) h.parted p in
    let a = carriers_joined p (of_globals program.globals config.store.values) (flat_map (owned program) config.threads) in
    let b = carriers_joined p (of_globals program.globals config.store.values ++ first) second in
    let c = carriers_joined p (of_globals program.globals config.store.values) first in
    let d = low p in
    let g = high p in
    let k = two_own program config.threads t u one other n e f p in
    omega (arith, all, a, b, c, d, g, k))

-- ---- the frame of a thread

module _ (program : Program) (layer : ℕ) (config : Config) (src : IsLayered program) (linear : Keeps linear_rules program) (h : IsKept (program_at program layer) config) where
  abbrev plain : Plain
  plain = program_at program layer

  -- what a topmost frame holds its thread owns
  pub frame_owned : (thread : Running) (below : List Activation) (f : Proc × Activation) → thread.state ≡ Inside below f.1 → slice_get program.procs f.1.procedure ≡ Some f.0 → (p : ℕ) → carriers p (of_flagged (held_before program f.0 f.1.place) f.1.locals) ≤ owns program thread thread.state p
  frame_owned thread below f is there p =
      subst (λ (s : State). carriers p (of_flagged (held_before program f.0 f.1.place) f.1.locals) ≤ owns program thread s p) (sym is)
      (let joined = carriers_joined p (flat_map (of_frame program (held_during program)) below) (of_frame program (held_before program) f.1) in
      let own : carriers p (of_frame program (held_before program) f.1) ≡ carriers p (of_flagged (held_before program f.0 f.1.place) f.1.locals) = ap (λ (o : Option Proc). carriers p (of_locals (held_before program) f.1 o)) there in
      omega (arith, joined, own))

  -- what is known of it
  pub record Known (f : Proc × Activation) : Type 0 where
    pub locals : HasLocals (program_at program layer) f.1
    pub proc : locals.proc ≡ f.0
    pub callee : ℕ
    pub below : List Activation
    pub stack : IsStack (program_at program layer) callee below f.1

  pub known : (u : ℕ) (thread : Running) (below : List Activation) (f : Proc × Activation) → slice_get config.threads u ≡ Some thread → thread.state ≡ Inside below f.1 → slice_get program.procs f.1.procedure ≡ Some f.0 → Known f
  known u thread below f at is there =
      let sorted = subst (StateIsSorted plain thread) is (all_at (ThreadIsSorted plain) config.threads u thread at h.of_plain.sorted) in
      let stacked = subst (StateIsStacked plain thread.callee) is (all_at (IsStacked plain) config.threads u thread at h.of_plain.stacked) in
      record { locals = sorted.2; proc = same_Some sorted.2.proc f.0 (sym sorted.2.there ∙ there); callee = thread.callee; below = below; stack = stacked }

  pub pause_owned : (u : ℕ) (thread : Running) (f : Proc × Activation) (y : ℕ) (cut : Cut) → slice_get config.threads u ≡ Some thread → frame_of_layer program (layer + 1) thread ≡ Some f → StandsAt program (layer + 1) f y cut
      → (p : ℕ) → carriers p (of_held (held_at program f.0 y) f.1.locals) ≤ owns program thread thread.state p
  pause_owned u thread f y cut at is stands p =
      let top = topmost program (layer + 1) thread.state f is in
      let k = known u thread top.below f at top.is top.of.there in
      let count = subst (λ (q : Proc). length_is q) k.proc (locals_count k.locals.proc f.1.locals k.locals.locals) in
      let placed = subst (λ (q : Proc). f.1.place ≤ sizes_of q.body) (same_Some k.stack.topmost.proc f.0 (sym k.stack.topmost.there ∙ top.of.there)) k.stack.topmost.place in
      let skips = subst (Skips (rest_of f)) stands.here (settled_skips (rest_of f)) in
      let one = cut_owned program src.rules linear (layer + 1) f.1.procedure f.0 top.of f.1.place placed f.1.locals count cut.statement stands.stmt cut.kind stands.behind skips stands.kind p in
      let two = frame_owned thread top.below f top.is top.of.there p in
      let same : carriers p (of_held (held_at program f.0 y) f.1.locals) ≡ carriers p (of_held (held_at program f.0 (cut_number f.0 cut.statement)) f.1.locals) = ap (λ (n : ℕ). carriers p (of_held (held_at program f.0 n) f.1.locals)) stands.number in
      omega (arith, one, two, same)
    where
      length_is : Proc → Type 0
      length_is q = length f.1.locals ≡ length (names_in_proc q)

-- ---- checked programs

module _ (actions_keep_permissions : ActionsKeepPermissions) (program : Program) (layer : ℕ) (store : Store) (c : IsChecked program layer store) where
  pub kept : (action : Action) → Meant (program_at program layer) action → KeepsPermissions program action
  kept action meant = let m = meant_begins program c.layered layer action meant in let b = c.below in let low = m.2 in actions_keep_permissions program m.0 action c.layered c.hold m.1 (omega (arith, low, b))

  pub run_is_kept : (moves : List Move) (config : Config) → All IsMove moves → RunsTo (program_at program layer) moves (start (program_at program layer) store) config → IsKept (program_at program layer) config
  run_is_kept moves config fit runs =
      run_kept (program_at program layer) (layered_is_plain program c.layered layer) c.linear (are_writable program c.written) kept moves (start (program_at program layer) store) config fit runs (start_kept program layer store c.layered c.initial)

pub pauses_are_apart : ActionsKeepPermissions → PausesAreApart
pauses_are_apart keep program layer store moves config c fit runs t u x thread f y cut n before at is stands =
    let h = run_is_kept keep program layer store c moves config fit runs in
    let own = before_owns program layer config c.linear (are_writable program c.written) (layered_is_plain program c.layered layer) (kept keep program layer store c) h t x before in
    apart_of_two program layer config h t u before.thread thread n before.there at (of_inputs x) (of_held (held_at program f.0 y) f.1.locals) own.owned_all (pause_owned program layer config c.layered c.linear h u thread f y cut at is stands)
