-- A thread comes into a frame of a procedure of the upper layer by the call that makes it.
use Rattle.std.proofs.Common.{◌≡◌, ℕ, ◌+◌, Bool, true, false, List, refl, sym, subst, arith, Option, None, Some, slice_get}
use Rattle.std.specs.Prelude.{if◌then◌else◌}
use Rattle.std.proofs.lemmas.Bool.{true≢false}
use Rattle.std.proofs.lemmas.Option.{none-some}
use Rattle.civl_bits.specs.declared.value.Value.{Value}
use Rattle.civl_firing.specs.values.Values.{is_true}
use Rattle.civl_tree.specs.declared.name.Name.{Name}
use Rattle.civl_tree.specs.declared.program.Proc.{Proc}
use Rattle.civl_tree.specs.declared.program.Program.{Program}
use Rattle.civl_tree.specs.declared.stmt.Stmt.{Stmt, out-Stmt}
use Rattle.civl_tree.specs.declared.stmt.Stmt.TheOpen as stmt
use Rattle.civl_tree.specs.rules.Names.{names_in_proc}
use Rattle.civl_firing.specs.Eval.{value_of, values_of}
use Rattle.civl_firing.specs.Scope.{frame_values}
use Rattle.civl_meaning.specs.declared.config.Plain.{Plain}
use Rattle.civl_meaning.specs.declared.config.Activation.{Activation}
use Rattle.civl_meaning.specs.declared.config.State.{State}
use Rattle.civl_meaning.specs.declared.config.State.TheVariants.{Before, Inside, After}
use Rattle.civl_meaning.specs.declared.config.Running.{Running}
use Rattle.civl_meaning.specs.declared.config.Change.TheVariants as change
use Rattle.civl_meaning.specs.Places.{Spot, spot_at}
use Rattle.civl_meaning.specs.Meaning.{Meaning, Does, Runs, Missing, called}
use Rattle.civl_meaning.specs.Config.{IsBodyOf, LayerCalls, SpotCalls, ProcCalls, Waits, IsStacked, StateIsStacked}
use Rattle.civl_meaning.specs.Change.{returned_at, returned_in, returned, caller_of, outs_in, Doing, call_doing, statement_doing, leaving, spot_doing, proc_doing, state_doing, doing}
use Rattle.civl_meaning.specs.Layers.{program_at}
use Rattle.civl_meaning.specs.Step.{state_after, thread_after}
use Rattle.civl_layers.specs.Layered.{IsLayered}
use Rattle.civl_conditions.specs.Steps.{has_layer}
use Rattle.civl_conditions.proofs.Layered.{layered_by}
use Rattle.civl_meaning.specs.Change as does
use Rattle.civl_reduction.specs.blocks.Blocks.{framed_in, framed_state, frame_of_layer}
use Rattle.civl_reduction.proofs.blocks.Standing.Below.{calls_no_body}
use Rattle.civl_reduction.proofs.blocks.Standing.Spots.{stands_there}
use Rattle.civl_reduction.proofs.staged.Opened.Forms.{last_waits}

-- a thread in this state that is removed from its topmost frame goes back to the one below
abbrev pub LeavesTo : Plain → Option Activation → Doing → Type 0
LeavesTo plain below (does.Leaves None) = below ≡ None
LeavesTo plain below (does.Leaves (Some frame)) = (waiting : Activation) × (below ≡ Some waiting) × (frame.procedure ≡ waiting.procedure)
LeavesTo plain below _ = Unit {0}

module _ (plain : Plain) where
  returned_same : (outs : List Value) (f : Activation) → (returned plain outs f).procedure ≡ f.procedure
  returned_same outs f = by_proc (slice_get plain.program.procs f.procedure)
    where
      by_spot : (proc : Proc) (o : Option Spot) → (returned_at f outs proc o).procedure ≡ f.procedure
      by_spot proc None = refl
      by_spot proc (Some s) = refl

      by_proc : (o : Option Proc) → (returned_in f outs o).procedure ≡ f.procedure
      by_proc None = refl
      by_proc (Some proc) = by_spot proc (spot_at proc.body f.place)

  call_to : (below : Option Activation) (ns : List Name) (ls : List Value) (rs : List Name) (at next : ℕ) (m : Meaning) (vs : List Value) → LeavesTo plain below (call_doing ns ls rs at next m vs)
  call_to below ns ls rs at next (Does action) vs = tt
  call_to below ns ls rs at next (Runs n p) vs = tt
  call_to below ns ls rs at next Missing vs = tt

  assert_to : (below : Option Activation) (b : Bool) (ls : List Value) (next : ℕ) → LeavesTo plain below (if b then does.Goes ls next else does.Fails)
  assert_to below true ls next = tt
  assert_to below false ls next = tt

  layer_to : (below : Option Activation) (p : Proc) (ls : List Value) (at next : ℕ) (d : stmt.Stmt-F Stmt) → LeavesTo plain below (statement_doing plain p ls at next d)
  layer_to below p ls at next (stmt.Assert e) = assert_to below (is_true (value_of (frame_values plain.program.globals p ls) e)) ls next
  layer_to below p ls at next (stmt.Call f es rs) = call_to below (names_in_proc p) ls rs at next (called plain f) (values_of (frame_values plain.program.globals p ls) es)
  layer_to below p ls at next _ = tt

  leaving_to : (outs : List Value) (below : Option Activation) → LeavesTo plain below (leaving plain outs below)
  leaving_to outs None = refl
  leaving_to outs (Some f) = (f, refl, returned_same outs f)

  spot_to : (below : Option Activation) (f : Activation) (p : Proc) (o : Option Spot) → LeavesTo plain below (spot_doing plain below f p o)
  spot_to below f p None = leaving_to (outs_in p f.locals) below
  spot_to below f p (Some x) = layer_to below p f.locals x.number x.next (out-Stmt x.stmt)

  proc_to : (below : Option Activation) (f : Activation) (o : Option Proc) → LeavesTo plain below (proc_doing plain below f o)
  proc_to below f None = tt
  proc_to below f (Some p) = spot_to below f p (spot_at p.body f.place)

module _ (program : Program) (layer : ℕ) (src : IsLayered program) where
  abbrev plain : Plain
  plain = program_at program layer

  -- a frame with these statements is of no procedure of the layer above
  abbrev Other : ℕ → Type 0
  Other number = (proc : Proc) → slice_get program.procs number ≡ Some proc → has_layer (layer + 1) proc ≡ false

  waits_other : (n : ℕ) (f : Activation) → Waits plain n f → Other f.procedure
  waits_other n f w proc there = untrue (has_layer (layer + 1) proc) refl
    where
      by_meaning : (m : Meaning) → IsBodyOf n m → (number : ℕ) × (p : Proc) × (m ≡ Runs number p)
      by_meaning (Does a) b = absurd b
      by_meaning (Runs number p) b = (number, p, refl)
      by_meaning Missing b = absurd b

      by_form : has_layer (layer + 1) proc ≡ true → (s : Spot) → spot_at proc.body f.place ≡ Some s → (d : stmt.Stmt-F Stmt) → out-Stmt s.stmt ≡ d → LayerCalls plain n d → ⊥
      by_form l s at (stmt.Call g es rs) form c =
          let r = layered_by (layer + 1) proc.refines l in
          let low = r.2 in
          let m = by_meaning (called plain g) c in
          calls_no_body program layer src f.procedure proc r.0 there r.1 (omega (arith, low)) s.number s.stmt (stands_there program proc.body f.place s at) g es rs form m.0 m.1 m.2
      by_form l s at _ form c = c

      by_spot : has_layer (layer + 1) proc ≡ true → (o : Option Spot) → spot_at proc.body f.place ≡ o → SpotCalls plain n f.place o → ⊥
      by_spot l None at c = c
      by_spot l (Some s) at c = by_form l s at (out-Stmt s.stmt) refl c.1

      untrue : (b : Bool) → has_layer (layer + 1) proc ≡ b → b ≡ false
      untrue false e = refl
      untrue true e = absurd (by_spot e (spot_at proc.body f.place) refl (subst (ProcCalls plain n f.place) there w))

  framed_other : (frame : Activation) → Other frame.procedure → framed_in (layer + 1) frame (slice_get program.procs frame.procedure) ≡ None
  framed_other frame h = go (slice_get program.procs frame.procedure) h
    where
      by_layer : (proc : Proc) (b : Bool) → b ≡ false → if◌then◌else◌ {A = Option (Proc × Activation)} b (Some (proc, frame)) None ≡ None
      by_layer proc false e = refl
      by_layer proc true e = absurd (true≢false e)

      go : (o : Option Proc) → ((proc : Proc) → o ≡ Some proc → has_layer (layer + 1) proc ≡ false) → framed_in (layer + 1) frame o ≡ None
      go None k = refl
      go (Some proc) k = by_layer proc (has_layer (layer + 1) proc) (k proc refl)

  -- a frame of the same procedure is of a layer where the first is
  pub framed_same : (frame : Activation) (locals : List Value) (place : ℕ) → framed_in (layer + 1) frame (slice_get program.procs frame.procedure) ≡ None
      → framed_in (layer + 1) (record { procedure = frame.procedure; place = place; locals = locals }) (slice_get program.procs frame.procedure) ≡ None
  framed_same frame locals place = by_proc (slice_get program.procs frame.procedure)
    where
      by_layer : (proc : Proc) (b : Bool) → if◌then◌else◌ {A = Option (Proc × Activation)} b (Some (proc, frame)) None ≡ None → if◌then◌else◌ {A = Option (Proc × Activation)} b (Some (proc, record { procedure = frame.procedure; place = place; locals = locals })) None ≡ None
      by_layer proc false e = refl
      by_layer proc true e = absurd (none-some (proc, frame) (sym e))

      by_proc : (o : Option Proc) → framed_in (layer + 1) frame o ≡ None → framed_in (layer + 1) (record { procedure = frame.procedure; place = place; locals = locals }) o ≡ None
      by_proc None e = refl
      by_proc (Some proc) e = by_layer proc (has_layer (layer + 1) proc) e

  -- a thread in no frame of the layer stays in none when it goes on
  pub goes_none : (state : State) (locals : List Value) (place : ℕ) → framed_state program (layer + 1) state ≡ None → framed_state program (layer + 1) (state_after state (change.Goes locals place)) ≡ None
  goes_none Before locals place e = refl
  goes_none (Inside below frame) locals place e = framed_same frame locals place e
  goes_none After locals place e = refl

  -- nor does it come into one by the removal of its topmost frame
  pub leaves_none : (thread : Running) → IsStacked plain thread → (o : Option Activation) → doing plain thread ≡ does.Leaves o → frame_of_layer program (layer + 1) (thread_after thread (change.Leaves o)) ≡ None
  leaves_none thread stacked o e = by_state thread.state stacked e
    where
      by_option : (below : List Activation) (frame : Activation) (p : Option Activation) → StateIsStacked plain thread.callee (Inside below frame) → LeavesTo plain (caller_of below) (does.Leaves p) → framed_state program (layer + 1) (state_after (Inside below frame) (change.Leaves p)) ≡ None
      by_option below frame None s h = refl
      by_option below frame (Some top) s h =
          framed_other top (subst Other (sym h.2) (waits_other frame.procedure h.0 (last_waits plain below frame h.0 s.waiting h.1)))

      by_state : (state : State) → StateIsStacked plain thread.callee state → state_doing plain thread state ≡ does.Leaves o → framed_state program (layer + 1) (state_after state (change.Leaves o)) ≡ None
      by_state Before s q = refl
      by_state (Inside below frame) s q = by_option below frame o s (subst (LeavesTo plain (caller_of below)) q (proc_to plain (caller_of below) frame (slice_get program.procs frame.procedure)))
      by_state After s q = refl
