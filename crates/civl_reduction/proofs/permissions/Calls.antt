-- A thread before a call of an action owns what the action takes; so the calls of two threads are apart.
use Rattle.std.proofs.Common.{◌≡◌, ◌≢◌, ℕ, zero, suc, ◌+◌, ◌≤◌, true, List, [], ◌∷◌, ◌++◌, refl, sym, ap, ◌∙◌, subst, arith, Option, None, Some, slice_get, inr}
use Rattle.std.specs.Prelude.{flat_map}
use Rattle.std.proofs.lemmas.Option.{same_Some, none-some}
use Rattle.std.proofs.lemmas.List.Elements.{All-nil}
use Rattle.civl_bits.specs.Value.{IsValue}
use Rattle.civl_bits.specs.declared.value.Value.{Value}
use Rattle.civl_firing.specs.values.Values.{HaveSorts, is_true}
use Rattle.civl_tree.specs.declared.action.Action.{Action}
use Rattle.civl_tree.specs.declared.stmt.Stmt.{Stmt, out-Stmt}
use Rattle.civl_tree.specs.declared.name.Name.{Name}
use Rattle.civl_tree.specs.declared.stmt.Stmt.TheOpen.{Stmt-F, Assert, Call}
use Rattle.civl_tree.specs.declared.program.Program.{Program}
use Rattle.civl_tree.specs.rules.Uses.{param_sorts}
use Rattle.civl_tree.specs.rules.Names.{names_in_proc}
use Rattle.civl_tree.specs.rules.Rules.{Keeps}
use Rattle.civl_firing.specs.declared.store.Store.{Store}
use Rattle.civl_firing.specs.Eval.{value_of, values_of}
use Rattle.civl_firing.specs.Scope.{frame_values}
use Rattle.civl_firing.specs.Stores.{IsStore}
use Rattle.civl_meaning.specs.declared.config.Plain.{Plain}
use Rattle.civl_meaning.specs.declared.config.Activation.{Activation}
use Rattle.civl_meaning.specs.declared.config.State.{State}
use Rattle.civl_meaning.specs.declared.config.State.TheVariants.{Before, Inside, After}
use Rattle.civl_meaning.specs.declared.config.Running.{Running}
use Rattle.civl_meaning.specs.declared.config.Config.{Config}
use Rattle.civl_meaning.specs.Permissions.{of_globals, of_params}
use Rattle.civl_meaning.specs.Places.{Spot, spot_at}
use Rattle.civl_meaning.specs.Meaning.{Meaning, Does, Runs, Missing, called, meaning_of}
use Rattle.civl_meaning.specs.Change.{call_doing, statement_doing, spot_doing, proc_doing, state_doing, caller_of}
use Rattle.civl_meaning.specs.Layers.{program_at}
use Rattle.civl_meaning.specs.Step.{start}
use Rattle.civl_meaning.specs.Config.{IsPlain, HasLocals, IsBegun, IsStack, StateIsSorted, StateIsStacked, ThreadIsSorted, IsStacked}
use Rattle.civl_linear.specs.Modes.{is_passed}
use Rattle.civl_linear.specs.LinearRules.{linear_rules}
use Rattle.civl_layers.proofs.PlainPrograms.{layered_is_plain}
use Rattle.civl_conditions.specs.Values.{Invoked}
use Rattle.civl_conditions.specs.Movers.{apart}
use Rattle.civl_conditions.specs.Permissions.{of_modes}
use Rattle.civl_soundness.specs.Stepped.{called_in, next_action}
use Rattle.civl_soundness.proofs.Progress.{asserts_call_nothing}
use Rattle.civl_soundness.proofs.Called as sorts
use Rattle.civl_soundness.proofs.Fitting.{all_at}
use Rattle.civl_reduction.specs.permissions.Owned.{owned}
use Rattle.civl_reduction.specs.permissions.Stay.{KeepsPermissions}
use Rattle.civl_reduction.specs.permissions.Apart.{SpawnsStandInRoots, StandsBefore, CallsAreApart, CallsExist}
use Rattle.civl_reduction.proofs.permissions.Lasting.{call_exists, first_exists}
use Rattle.civl_reduction.proofs.permissions.Existing.{top_runs}
use Rattle.civl_layers.specs.Ranges.{exists_in}
use Rattle.civl_layers.specs.Names.{action_range}
use Rattle.civl_layers.specs.Layered.{IsLayered}
use Rattle.civl_tree.specs.declared.program.Proc.{Proc}
use Rattle.civl_tree.specs.Numbering.{sizes_of}
use Rattle.civl_soundness.proofs.Soundness.{reached_is_of}
use Rattle.civl_reduction.proofs.permissions.Counting.{carriers, carriers_joined, counts_of, disjoint_by}
use Rattle.civl_reduction.proofs.permissions.Args.{params_passed}
use Rattle.civl_reduction.proofs.permissions.Next.{steps}
use Rattle.civl_reduction.proofs.permissions.Meant.{number_serves}
use Rattle.civl_reduction.proofs.permissions.Lending.{AreLent, StateIsLent}
use Rattle.civl_reduction.proofs.permissions.Changing.{Meant, AreWritable, owns, call_owns, inputs_fit, meant}
use Rattle.civl_reduction.proofs.permissions.Threads.{locals_count, placed_in, begun_owns}
use Rattle.civl_reduction.proofs.permissions.Sorting.{callee_known}
use Rattle.civl_reduction.proofs.permissions.Staying.{IsKept, all_own, one_own, run_kept}
use Rattle.civl_reduction.proofs.permissions.Reaching.{are_writable, meant_begins, start_kept}

-- what a thread before a call owns, and what it calls
pub record CallOwns (plain : Plain) (thread : Running) (action : Action) (args : List Value) : Type 0 where
  pub owned_all : (p : ℕ) → carriers p (of_params action.params args) ≤ owns plain.program thread thread.state p
  pub sorted : HaveSorts args (param_sorts action.params)
  pub meant_so : Meant plain action

module _ (plain : Plain) (ok : IsPlain plain) (linear : Keeps linear_rules plain.program) (writable : AreWritable plain.program) (keeps : (action : Action) → Meant plain action → KeepsPermissions plain.program action)
    (store : Store) (fits : IsStore plain.program.globals store) (callee : ℕ) (given : List Value) where
  abbrev program : Program
  program = plain.program

  abbrev at_state : State → Running
  at_state state = record { callee = callee; args = given; state = state }

  acts : (ns : List Name) (ls : List Value) (rs : List Name) (at next : ℕ) (m : Meaning) (vs args : List Value) (action : Action) → called_in (call_doing ns ls rs at next m vs) ≡ Some (action, args) → (m ≡ Does action) × (vs ≡ args)
  acts ns ls rs at next (Does a) vs args action e = let s = same_Some (a, vs) (action, args) e in (ap (λ (c : Action × List Value). Does c.0) s, ap (λ (c : Action × List Value). c.1) s)
  acts ns ls rs at next (Runs n p) vs args action e = absurd (none-some (action, args) e)
  acts ns ls rs at next Missing vs args action e = absurd (none-some (action, args) e)

  first_owns : (b : IsBegun plain (at_state Before)) (action : Action) → meaning_of plain callee ≡ Does action → CallOwns plain (at_state Before) action given
  first_owns b action does =
      let serves = number_serves program ok.signatures plain refl callee b.proc b.there action does in
      record {
        owned_all = λ p.
            let one = begun_owns plain ok linear writable keeps store fits [] (All-nil IsValue) (at_state Before) b p in
            let two : carriers p (of_params action.params given) ≡ carriers p (of_modes is_passed b.proc.params given) =
            ap (carriers p) (params_passed action.params given (writable.0 serves.place action serves.there) ∙ sym (serves.params.carry is_passed given)) in
            omega (arith, one, two);
        sorted = subst (HaveSorts given) (sym (subst (sorts.Serves program (param_sorts b.proc.params) (param_sorts b.proc.outs)) does (sorts.number_serves plain ok callee b.proc b.there)).2) b.args;
        meant_so = inr (callee, does);
      }

  inside_owns_call : (below : List Activation) (top : Activation) → HasLocals plain top → IsStack plain callee below top → AreLent program below top → (action : Action) (args : List Value)
      → called_in (proc_doing plain (caller_of below) top (slice_get program.procs top.procedure)) ≡ Some (action, args) → CallOwns plain (at_state (Inside below top)) action args
  inside_owns_call below top h stack lent action args e =
      by_spot (spot_at h.proc.body top.place) refl (sym (ap (λ (o : Option Proc). called_in (proc_doing plain (caller_of below) top o)) h.there) ∙ e)
    where
      by_layer : (s : Spot) → spot_at h.proc.body top.place ≡ Some s → (d : Stmt-F Stmt) → out-Stmt s.stmt ≡ d → called_in (statement_doing plain h.proc top.locals s.number s.next d) ≡ Some (action, args) → CallOwns plain (at_state (Inside below top)) action args
      by_layer s found (Call g es rs) q k =
          let same = locals_count h.proc top.locals h.locals in
          let st = steps program ok.rules linear top.procedure h.proc h.there top.place (placed_in plain ok linear writable keeps store fits [] (All-nil IsValue) (at_state (Inside below top)) top h.proc h.there stack.topmost) s found in
          let known = callee_known program ok.rules top.procedure h.proc h.there s.number s.stmt st.here g es rs q in
          let a = acts (names_in_proc h.proc) top.locals rs s.number s.next (called plain g) (values_of (frame_values program.globals h.proc top.locals) es) args action k in
          subst (CallOwns plain (at_state (Inside below top)) action) a.1
          (record {
            owned_all = call_owns plain ok linear writable keeps store fits [] (All-nil IsValue) (at_state (Inside below top)) below top h.proc h.there h.locals same lent s st g es rs q known.0 known.1 action a.0;
            sorted = inputs_fit plain ok linear writable keeps store fits [] (All-nil IsValue) (at_state (Inside below top)) below top h.proc h.there h.locals same lent s st g es rs q known.0 known.1 action a.0;
            meant_so = meant plain ok linear writable keeps store fits [] (All-nil IsValue) (at_state (Inside below top)) below top h.proc h.there h.locals same lent s st g es rs q known.0 known.1 action a.0;
          })
      by_layer s found (Assert e) q k = absurd (none-some (action, args) (sym (asserts_call_nothing top.locals s.next (is_true (value_of (frame_values program.globals h.proc top.locals) e))) ∙ k))
      by_layer s found _ q k = absurd (none-some (action, args) k)

      by_spot : (o : Option Spot) → spot_at h.proc.body top.place ≡ o → called_in (spot_doing plain (caller_of below) top h.proc o) ≡ Some (action, args) → CallOwns plain (at_state (Inside below top)) action args
      by_spot None found k = absurd (none-some (action, args) k)
      by_spot (Some s) found k = by_layer s found (out-Stmt s.stmt) refl k

  pub state_owns : (state : State) → StateIsSorted plain (at_state state) state → StateIsStacked plain callee state → StateIsLent program state → (action : Action) (args : List Value) → called_in (state_doing plain (at_state state) state) ≡ Some (action, args) → CallOwns plain (at_state state) action args
  state_owns Before b s l action args e =
      let a = acts [] [] [] 0 0 (meaning_of plain callee) given args action e in
      subst (CallOwns plain (at_state Before) action) a.1 (first_owns b action a.0)
  state_owns (Inside below top) b s l action args e = inside_owns_call below top b.2 s l action args e
  state_owns After b s l action args e = absurd (none-some (action, args) e)

-- ---- the layer

module _ (program : Program) (src : IsLayered program) (layer : ℕ) (within : layer ≤ program.layers) (roots : SpawnsStandInRoots program) (linear : Keeps linear_rules program) where
  abbrev at_layer : Plain
  at_layer = program_at program layer

  does_of : (ns : List Name) (ls : List Value) (rs : List Name) (at next : ℕ) (m : Meaning) (vs args : List Value) (action : Action) → called_in (call_doing ns ls rs at next m vs) ≡ Some (action, args) → m ≡ Does action
  does_of ns ls rs at next (Does a) vs args action e = ap (λ (c : Action × List Value). Does c.0) (same_Some (a, vs) (action, args) e)
  does_of ns ls rs at next (Runs n p) vs args action e = absurd (none-some (action, args) e)
  does_of ns ls rs at next Missing vs args action e = absurd (none-some (action, args) e)

  top_exists : (callee : ℕ) (below : List Activation) (top : Activation) → HasLocals at_layer top → IsStack at_layer callee below top → (action : Action) (args : List Value) → called_in (proc_doing at_layer (caller_of below) top (slice_get program.procs top.procedure)) ≡ Some (action, args) → exists_in layer (action_range action) ≡ true
  top_exists callee below top h stack action args e = by_spot (spot_at h.proc.body top.place) refl (sym (ap (λ (o : Option Proc). called_in (proc_doing at_layer (caller_of below) top o)) h.there) ∙ e)
    where
      placed : top.place ≤ sizes_of h.proc.body
      placed = subst (λ (p : Proc). top.place ≤ sizes_of p.body) (same_Some stack.topmost.proc h.proc (sym stack.topmost.there ∙ h.there)) stack.topmost.place

      by_layer : (s : Spot) → spot_at h.proc.body top.place ≡ Some s → (d : Stmt-F Stmt) → out-Stmt s.stmt ≡ d → called_in (statement_doing at_layer h.proc top.locals s.number s.next d) ≡ Some (action, args) → exists_in layer (action_range action) ≡ true
      by_layer s found (Call g es rs) q k =
          let st = steps program src.rules linear top.procedure h.proc h.there top.place placed s found in
          call_exists program src layer within top.procedure h.proc h.there (top_runs at_layer callee below top stack) s.number s.stmt g es rs st.here q action (does_of (names_in_proc h.proc) top.locals rs s.number s.next (called at_layer g) (values_of (frame_values program.globals h.proc top.locals) es) args action k)
      by_layer s found (Assert e) q k = absurd (none-some (action, args) (sym (asserts_call_nothing top.locals s.next (is_true (value_of (frame_values program.globals h.proc top.locals) e))) ∙ k))
      by_layer s found _ q k = absurd (none-some (action, args) k)

      by_spot : (o : Option Spot) → spot_at h.proc.body top.place ≡ o → called_in (spot_doing at_layer (caller_of below) top h.proc o) ≡ Some (action, args) → exists_in layer (action_range action) ≡ true
      by_spot None found k = absurd (none-some (action, args) k)
      by_spot (Some s) found k = by_layer s found (out-Stmt s.stmt) refl k

  pub next_exists : (thread : Running) → ThreadIsSorted at_layer thread → IsStacked at_layer thread → (action : Action) (args : List Value) → next_action at_layer thread ≡ Some (action, args) → exists_in layer (action_range action) ≡ true
  next_exists thread = by_state thread.state
    where
      by_state : (state : State) → StateIsSorted at_layer thread state → StateIsStacked at_layer thread.callee state → (action : Action) (args : List Value) → called_in (state_doing at_layer thread state) ≡ Some (action, args) → exists_in layer (action_range action) ≡ true
      by_state Before b s action args e = first_exists program src layer within roots thread.callee action (does_of [] [] [] 0 0 (meaning_of at_layer thread.callee) thread.args args action e) b.begins
      by_state (Inside below top) b s action args e = top_exists thread.callee below top b.2 s action args e
      by_state After b s action args e = absurd (none-some (action, args) e)

-- ---- two threads

-- what two threads own
pub two_own : (program : Program) (threads : List Running) (t u : ℕ) (one other : Running) → t ≢ u → slice_get threads t ≡ Some one → slice_get threads u ≡ Some other → (p : ℕ) → owns program one one.state p + owns program other other.state p ≤ all_own program threads p
two_own program [] t u one other n e f p = absurd (none-some one e)
two_own program (r ∷ rs) zero zero one other n e f p = absurd (n refl)
two_own program (r ∷ rs) zero (suc u) one other n e f p =
    let joined = carriers_joined p (owned program r) (flat_map (owned program) rs) in
    let is : carriers p (owned program r) ≡ carriers p (owned program one) = ap (λ (x : Running). carriers p (owned program x)) (same_Some r one e) in
    let rest = one_own program rs u other f p in
    omega (arith, joined, is, rest)
two_own program (r ∷ rs) (suc t) zero one other n e f p =
    let joined = carriers_joined p (owned program r) (flat_map (owned program) rs) in
    let is : carriers p (owned program r) ≡ carriers p (owned program other) = ap (λ (x : Running). carriers p (owned program x)) (same_Some r other f) in
    let rest = one_own program rs t one e p in
    omega (arith, joined, is, rest)
two_own program (r ∷ rs) (suc t) (suc u) one other n e f p =
    let joined = carriers_joined p (owned program r) (flat_map (owned program) rs) in
    let rest = two_own program rs t u one other (λ q. n (ap suc q)) e f p in
    omega (arith, joined, rest)

module _ (program : Program) (layer : ℕ) (config : Config) (linear : Keeps linear_rules program) (writable : AreWritable program) (ok : IsPlain (program_at program layer)) (keeps : (action : Action) → Meant (program_at program layer) action → KeepsPermissions program action) (h : IsKept (program_at program layer) config) where
  abbrev plain : Plain
  plain = program_at program layer

  pub before_owns : (t : ℕ) (x : Invoked) (s : StandsBefore program layer config t x) → CallOwns plain s.thread x.action x.inputs
  before_owns t x s =
      state_owns plain ok linear writable keeps config.store h.of_plain.store s.thread.callee s.thread.args s.thread.state
      (all_at (ThreadIsSorted plain) config.threads t s.thread s.there h.of_plain.sorted) (all_at (IsStacked plain) config.threads t s.thread s.there h.of_plain.stacked)
      (all_at (λ (r : Running). StateIsLent program r.state) config.threads t s.thread s.there h.lent) x.action x.inputs s.next

  pub two_apart : (t u : ℕ) (x y : Invoked) → t ≢ u → StandsBefore program layer config t x → StandsBefore program layer config u y → apart program config.store x y ≡ true
  two_apart t u x y n s r =
      disjoint_by (of_globals program.globals config.store.values ++ (of_params x.action.params x.inputs ++ of_params y.action.params y.inputs)) (λ p.
      let all = counts_of (of_globals program.globals config.store.values ++ flat_map (owned program) config.threads) h.parted p in
      let one = carriers_joined p (of_globals program.globals config.store.values) (flat_map (owned program) config.threads) in
      let two = carriers_joined p (of_globals program.globals config.store.values) (of_params x.action.params x.inputs ++ of_params y.action.params y.inputs) in
      let three = carriers_joined p (of_params x.action.params x.inputs) (of_params y.action.params y.inputs) in
      let four = (before_owns t x s).owned_all p in
      let five = (before_owns u y r).owned_all p in
      let six = two_own program config.threads t u s.thread r.thread n s.there r.there p in
      omega (arith, all, one, two, three, four, five, six))

pub calls_are_apart : CallsAreApart
calls_are_apart program layer store moves config allowed src linear keeps initial fit runs t x s =
    let writable = are_writable program allowed in
    let ok = layered_is_plain program src layer in
    let kept : (action : Action) → Meant (program_at program layer) action → KeepsPermissions program action = λ action meant. let m = meant_begins program src layer action meant in keeps m.0 action m.1 m.2 in
    let h = run_kept (program_at program layer) ok linear writable kept moves (start (program_at program layer) store) config fit runs (start_kept program layer store src initial) in
    let own = before_owns program layer config linear writable ok kept h t x s in
    let m = meant_begins program src layer x.action own.meant_so in
    (record { number = m.0; action = m.1; first = m.2; inputs = own.sorted }, λ u y n r. two_apart program layer config linear writable ok kept h t u x y n s r)

pub calls_exist : CallsExist
calls_exist program layer store moves config src linear roots within fits fit runs t x s =
    let of_program = reached_is_of (program_at program layer) store moves config (layered_is_plain program src layer) fits fit runs in
    next_exists program src layer within roots linear s.thread
    (all_at (ThreadIsSorted (program_at program layer)) config.threads t s.thread s.there of_program.sorted) (all_at (IsStacked (program_at program layer)) config.threads t s.thread s.there of_program.stacked) x.action x.inputs s.next
