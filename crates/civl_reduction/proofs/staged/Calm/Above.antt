-- The action that a thread calls in a layer's program exists in the layer above too, where the thread is in no procedure of that.
use Rattle.std.proofs.Common.{◌≡◌, ℕ, ◌+◌, ◌≤◌, Bool, true, false, List, [], refl, sym, ap, ◌∙◌, subst, arith, Option, None, Some, slice_get}
use Rattle.std.specs.Prelude.{nat_lt, if◌then◌else◌}
use Rattle.std.proofs.lemmas.Bool.{false≢true, ltb-true, ltb-false, eq-eqb}
use Rattle.std.proofs.lemmas.Option.{same_Some, none-some}
use Rattle.civl_bits.specs.declared.value.Value.{Value}
use Rattle.civl_tree.specs.declared.name.Name.{Name}
use Rattle.civl_tree.specs.declared.action.Action.{Action}
use Rattle.civl_tree.specs.declared.stmt.Stmt.{Stmt, out-Stmt}
use Rattle.civl_tree.specs.declared.stmt.Stmt.TheOpen.{Stmt-F, Assert, Call}
use Rattle.civl_tree.specs.declared.program.Proc.{Proc}
use Rattle.civl_tree.specs.declared.program.Refines.{Refines}
use Rattle.civl_tree.specs.declared.program.Program.{Program}
use Rattle.civl_tree.specs.Numbering.{sizes_of}
use Rattle.civl_tree.specs.rules.Names.{action_named, names_in_proc}
use Rattle.civl_tree.specs.rules.Rules.{Keeps}
use Rattle.civl_firing.specs.values.Values.{is_true}
use Rattle.civl_firing.specs.Eval.{value_of, values_of}
use Rattle.civl_firing.specs.Scope.{frame_values}
use Rattle.civl_meaning.specs.declared.config.Plain.{Plain}
use Rattle.civl_meaning.specs.declared.config.Activation.{Activation}
use Rattle.civl_meaning.specs.declared.config.State.{State}
use Rattle.civl_meaning.specs.declared.config.State.TheVariants.{Before, Inside, After}
use Rattle.civl_meaning.specs.declared.config.Running.{Running}
use Rattle.civl_meaning.specs.Places.{Spot, spot_at}
use Rattle.civl_meaning.specs.Meaning.{Meaning, Does, Runs, Missing, called, meaning_of, meaning_by, meaning_else, proc_number}
use Rattle.civl_meaning.specs.Change.{call_doing, statement_doing, spot_doing, proc_doing, state_doing, caller_of}
use Rattle.civl_meaning.specs.Layers.{means_body, program_at}
use Rattle.civl_meaning.specs.Config.{HasLocals, IsStack, StateIsSorted, StateIsStacked, ThreadIsSorted, IsStacked}
use Rattle.civl_meaning.proofs.Bodies.{bodies_at}
use Rattle.civl_linear.specs.LinearRules.{linear_rules}
use Rattle.civl_layers.specs.Ranges.{exists_in}
use Rattle.civl_layers.specs.Names.{action_range}
use Rattle.civl_layers.specs.Layered.{IsLayered}
use Rattle.civl_conditions.specs.Steps.{refines_at, has_layer}
use Rattle.civl_soundness.specs.Stepped.{called_in, next_action}
use Rattle.civl_soundness.proofs.Progress.{asserts_call_nothing}
use Rattle.civl_reduction.specs.permissions.Apart.{SpawnsStandInRoots}
use Rattle.civl_reduction.proofs.permissions.Lasting.{call_exists, first_exists}
use Rattle.civl_reduction.proofs.permissions.Existing.{top_runs}
use Rattle.civl_reduction.proofs.permissions.Meant.{does_by}
use Rattle.civl_reduction.proofs.permissions.Next.{steps}
use Rattle.civl_reduction.specs.blocks.Blocks.{framed_in, framed_state, frame_of_layer}

module _ (program : Program) (layer : ℕ) where
  abbrev lower : Plain
  lower = program_at program layer

  abbrev upper : Plain
  upper = program_at program (layer + 1)

  -- a procedure that is replaced in the layer is so above
  replaced : (o : Option Refines) → means_body layer o ≡ false → means_body (layer + 1) o ≡ false
  replaced None e = e
  replaced (Some r) e = let low = ltb-false layer r.layer e in go (nat_lt (layer + 1) r.layer) refl low
    where
      go : (b : Bool) → nat_lt (layer + 1) r.layer ≡ b → r.layer ≤ layer → b ≡ false
      go false q l = refl
      go true q l = let h = ltb-true (layer + 1) r.layer q in absurd (omega (arith, h, l))

  -- one that isn't, and that isn't of the layer above, isn't replaced there either
  stays : (o : Option Refines) → means_body layer o ≡ true → refines_at (layer + 1) o ≡ false → means_body (layer + 1) o ≡ true
  stays None e n = e
  stays (Some r) e n = let low = ltb-true layer r.layer e in go (nat_lt (layer + 1) r.layer) refl (omega (arith, low))
    where
      go : (b : Bool) → nat_lt (layer + 1) r.layer ≡ b → layer + 1 ≤ r.layer → b ≡ true
      go true q l = refl
      go false q l = let h = ltb-false (layer + 1) r.layer q in absurd (false≢true (sym n ∙ eq-eqb r.layer (layer + 1) (omega (arith, h, l))))

  number_does : (k : ℕ) (action : Action) → meaning_of lower k ≡ Does action → meaning_of upper k ≡ Does action
  number_does k action e =
      let d = does_by program (slice_get lower.bodies k) k (slice_get program.procs k) action e in
      let below : means_body layer d.0.refines ≡ false = same_Some (means_body layer d.0.refines) false (sym (bodies_at layer program.procs k d.0 d.1) ∙ d.2) in
      let above : slice_get upper.bodies k ≡ Some false = bodies_at (layer + 1) program.procs k d.0 d.1 ∙ ap (λ (b : Bool). Some b) (replaced d.0.refines below) in
      ap (λ (b : Option Bool). meaning_by program b k (slice_get program.procs k)) above ∙ (ap (meaning_by program (Some false) k) d.1 ∙ d.3)

  name_does : (g : Name) (action : Action) → called lower g ≡ Does action → called upper g ≡ Does action
  name_does g action e = go (action_named program g) e
    where
      go : (o : Option Action) → meaning_else lower g o ≡ Does action → meaning_else upper g o ≡ Does action
      go (Some a) h = h
      go None h = number_does (proc_number program g) action h

  -- a frame of no procedure of the layer above runs there too
  runs_above : (frame : Activation) (proc : Proc) → slice_get program.procs frame.procedure ≡ Some proc → framed_in (layer + 1) frame (Some proc) ≡ None → slice_get lower.bodies frame.procedure ≡ Some true → slice_get upper.bodies frame.procedure ≡ Some true
  runs_above frame proc at none body =
      let below : means_body layer proc.refines ≡ true = same_Some (means_body layer proc.refines) true (sym (bodies_at layer program.procs frame.procedure proc at) ∙ body) in
      bodies_at (layer + 1) program.procs frame.procedure proc at ∙ ap (λ (b : Bool). Some b) (stays proc.refines below (other (has_layer (layer + 1) proc) refl none))
    where
      other : (b : Bool) → has_layer (layer + 1) proc ≡ b → if◌then◌else◌ {A = Option (Proc × Activation)} b (Some (proc, frame)) None ≡ None → has_layer (layer + 1) proc ≡ false
      other false q h = q
      other true q h = absurd (none-some (proc, frame) (sym h))

module _ (program : Program) (src : IsLayered program) (layer : ℕ) (within : layer + 1 ≤ program.layers) (roots : SpawnsStandInRoots program) (linear : Keeps linear_rules program) where
  abbrev plain : Plain
  plain = program_at program layer

  does_of : (ns : List Name) (ls : List Value) (rs : List Name) (at next : ℕ) (m : Meaning) (vs args : List Value) (action : Action) → called_in (call_doing ns ls rs at next m vs) ≡ Some (action, args) → m ≡ Does action
  does_of ns ls rs at next (Does a) vs args action e = ap (λ (c : Action × List Value). Does c.0) (same_Some (a, vs) (action, args) e)
  does_of ns ls rs at next (Runs n p) vs args action e = absurd (none-some (action, args) e)
  does_of ns ls rs at next Missing vs args action e = absurd (none-some (action, args) e)

  top_above : (callee : ℕ) (below : List Activation) (top : Activation) → HasLocals plain top → IsStack plain callee below top → framed_in (layer + 1) top (slice_get program.procs top.procedure) ≡ None → (action : Action) (args : List Value)
      → called_in (proc_doing plain (caller_of below) top (slice_get program.procs top.procedure)) ≡ Some (action, args) → exists_in (layer + 1) (action_range action) ≡ true
  top_above callee below top h stack none action args e = by_spot (spot_at h.proc.body top.place) refl (sym (ap (λ (o : Option Proc). called_in (proc_doing plain (caller_of below) top o)) h.there) ∙ e)
    where
      placed : top.place ≤ sizes_of h.proc.body
      placed = subst (λ (p : Proc). top.place ≤ sizes_of p.body) (same_Some stack.topmost.proc h.proc (sym stack.topmost.there ∙ h.there)) stack.topmost.place

      by_layer : (s : Spot) → spot_at h.proc.body top.place ≡ Some s → (d : Stmt-F Stmt) → out-Stmt s.stmt ≡ d → called_in (statement_doing plain h.proc top.locals s.number s.next d) ≡ Some (action, args) → exists_in (layer + 1) (action_range action) ≡ true
      by_layer s found (Call g es rs) q k =
          let st = steps program src.rules linear top.procedure h.proc h.there top.place placed s found in
          let runs = runs_above program layer top h.proc h.there (sym (ap (framed_in (layer + 1) top) h.there) ∙ none) (top_runs plain callee below top stack) in
          call_exists program src (layer + 1) within top.procedure h.proc h.there runs s.number s.stmt g es rs st.here q action (name_does program layer g action (does_of (names_in_proc h.proc) top.locals rs s.number s.next (called plain g) (values_of (frame_values program.globals h.proc top.locals) es) args action k))
      by_layer s found (Assert e) q k = absurd (none-some (action, args) (sym (asserts_call_nothing top.locals s.next (is_true (value_of (frame_values program.globals h.proc top.locals) e))) ∙ k))
      by_layer s found _ q k = absurd (none-some (action, args) k)

      by_spot : (o : Option Spot) → spot_at h.proc.body top.place ≡ o → called_in (spot_doing plain (caller_of below) top h.proc o) ≡ Some (action, args) → exists_in (layer + 1) (action_range action) ≡ true
      by_spot None found k = absurd (none-some (action, args) k)
      by_spot (Some s) found k = by_layer s found (out-Stmt s.stmt) refl k

  pub next_above : (thread : Running) → ThreadIsSorted plain thread → IsStacked plain thread → frame_of_layer program (layer + 1) thread ≡ None → (action : Action) (args : List Value) → next_action plain thread ≡ Some (action, args) → exists_in (layer + 1) (action_range action) ≡ true
  next_above thread = by_state thread.state
    where
      by_state : (state : State) → StateIsSorted plain thread state → StateIsStacked plain thread.callee state → framed_state program (layer + 1) state ≡ None → (action : Action) (args : List Value) → called_in (state_doing plain thread state) ≡ Some (action, args) → exists_in (layer + 1) (action_range action) ≡ true
      by_state Before b s n action args e = first_exists program src (layer + 1) within roots thread.callee action (number_does program layer thread.callee action (does_of [] [] [] 0 0 (meaning_of plain thread.callee) thread.args args action e)) b.begins
      by_state (Inside below top) b s n action args e = top_above thread.callee below top b.2 s n action args e
      by_state After b s n action args e = absurd (none-some (action, args) e)
