-- Frames of the procedures of the upper layer, in the lower program.
use Rattle.std.proofs.Common.{◌≡◌, ℕ, ◌+◌, Bool, true, false, List, refl, sym, ap, ◌∙◌, subst, Option, None, Some, slice_get}
use Rattle.std.specs.Prelude.{if◌then◌else◌}
use Rattle.std.proofs.lemmas.Option.{none-some, same_Some}
use Rattle.civl_tree.specs.declared.program.Proc.{Proc}
use Rattle.civl_tree.specs.declared.program.Program.{Program}
use Rattle.civl_tree.specs.rules.Rules.{Keeps}
use Rattle.civl_meaning.specs.declared.config.Activation.{Activation}
use Rattle.civl_meaning.specs.declared.config.State.{State}
use Rattle.civl_meaning.specs.declared.config.State.TheVariants.{Before, Inside, After}
use Rattle.civl_meaning.specs.declared.config.Running.{Running}
use Rattle.civl_meaning.specs.Places.{spot_at}
use Rattle.civl_meaning.specs.Change.{caller_of, outs_in, leaving, spot_doing, proc_doing, state_doing, doing}
use Rattle.civl_meaning.specs.declared.config.Change.TheVariants as change
use Rattle.civl_meaning.specs.Layers.{program_at}
use Rattle.civl_meaning.specs.Step.{state_after, thread_after}
use Rattle.civl_layers.specs.Layered.{IsLayered}
use Rattle.civl_linear.specs.LinearRules.{linear_rules}
use Rattle.civl_yields.specs.YieldRules.{yield_rules}
use Rattle.civl_conditions.specs.Steps.{has_layer}
use Rattle.civl_meaning.specs.Change as does
use Rattle.civl_reduction.specs.blocks.Blocks.{framed_in, framed_state, frame_of_layer}
use Rattle.civl_reduction.proofs.simulation.Meets.Inputs.{StaysIn, stays_in}

-- the thread's topmost frame is this one, of a procedure of the layer
pub record IsFramed (program : Program) (layer : ℕ) (thread : Running) (f : Proc × Activation) : Type 0 where
  pub below : List Activation
  pub state : thread.state ≡ Inside below f.1
  pub there : slice_get program.procs f.1.procedure ≡ Some f.0
  pub layered : has_layer layer f.0 ≡ true

by_layer : (layer : ℕ) (frame : Activation) (proc : Proc) (f : Proc × Activation) (b : Bool) → has_layer layer proc ≡ b → if◌then◌else◌ {A = Option (Proc × Activation)} b (Some (proc, frame)) None ≡ Some f → ((proc, frame) ≡ f) × (has_layer layer proc ≡ true)
by_layer layer frame proc f true h e = (same_Some (proc, frame) f e, h)
by_layer layer frame proc f false h e = absurd (none-some f e)

pub framed : (program : Program) (layer : ℕ) (thread : Running) (f : Proc × Activation) → frame_of_layer program layer thread ≡ Some f → IsFramed program layer thread f
framed program layer thread f e = by_state thread.state refl e
  where
    by_proc : (below : List Activation) (frame : Activation) → thread.state ≡ Inside below frame → (o : Option Proc) → slice_get program.procs frame.procedure ≡ o → framed_in layer frame o ≡ Some f → IsFramed program layer thread f
    by_proc below frame s None at h = absurd (none-some f h)
    by_proc below frame s (Some proc) at h =
        let l = by_layer layer frame proc f (has_layer layer proc) refl h in
        subst (λ (g : Proc × Activation). IsFramed program layer thread g) l.0 (record { below = below; state = s; there = at; layered = l.1 })

    by_state : (state : State) → thread.state ≡ state → framed_state program layer state ≡ Some f → IsFramed program layer thread f
    by_state Before s h = absurd (none-some f h)
    by_state (Inside below frame) s h = by_proc below frame s (slice_get program.procs frame.procedure) refl h
    by_state After s h = absurd (none-some f h)

-- and back
pub frames : (program : Program) (layer : ℕ) (thread : Running) (f : Proc × Activation) → IsFramed program layer thread f → frame_of_layer program layer thread ≡ Some f
frames program layer thread f h =
    ap (framed_state program layer) h.state
    ∙ (ap (framed_in layer f.1) h.there ∙ ap (λ (b : Bool). if◌then◌else◌ {A = Option (Proc × Activation)} b (Some f) None) h.layered)

-- what a thread in such a frame does next
pub does_inside : (program : Program) (layer : ℕ) → IsLayered program → Keeps linear_rules program → Keeps yield_rules program → (thread : Running) (f : Proc × Activation) (h : IsFramed program (layer + 1) thread f)
    → StaysIn f.0 f.1.locals (leaving (program_at program layer) (outs_in f.0 f.1.locals) (caller_of h.below)) (doing (program_at program layer) thread)
does_inside program layer src linear yields thread f h =
    subst (StaysIn f.0 f.1.locals (leaving (program_at program layer) (outs_in f.0 f.1.locals) (caller_of h.below))) (sym is) (stays_in program layer src linear yields f.1 f.0 h.there h.layered (caller_of h.below))
  where
    is : doing (program_at program layer) thread ≡ spot_doing (program_at program layer) (caller_of h.below) f.1 f.0 (spot_at f.0.body f.1.place)
    is = ap (state_doing (program_at program layer) thread) h.state ∙ ap (proc_doing (program_at program layer) (caller_of h.below) f.1) h.there

-- a thread that enters a body is in no such frame
pub enters_outside : (program : Program) (layer : ℕ) → IsLayered program → Keeps linear_rules program → Keeps yield_rules program → (thread : Running) (frame : Activation) (place : ℕ) → doing (program_at program layer) thread ≡ does.Enters frame place
    → frame_of_layer program (layer + 1) thread ≡ None
enters_outside program layer src linear yields thread frame place e = go (frame_of_layer program (layer + 1) thread) refl
  where
    go : (o : Option (Proc × Activation)) → frame_of_layer program (layer + 1) thread ≡ o → o ≡ None
    go None q = refl
    go (Some f) q =
        let h = framed program (layer + 1) thread f q in
        absurd (subst (StaysIn f.0 f.1.locals (leaving (program_at program layer) (outs_in f.0 f.1.locals) (caller_of h.below))) e (does_inside program layer src linear yields thread f h))

-- behind the call that made the frame a thread is in it
pub enters_framed : (program : Program) (layer : ℕ) (caller : Running) (frame : Activation) (proc : Proc) (place : ℕ) → doing (program_at program layer) caller ≡ does.Enters frame place → slice_get program.procs frame.procedure ≡ Some proc → has_layer (layer + 1) proc ≡ true
    → frame_of_layer program (layer + 1) (thread_after caller (change.Enters frame place)) ≡ Some (proc, frame)
enters_framed program layer caller frame proc place e there layered = by_state caller.state e
  where
    named : framed_in (layer + 1) frame (slice_get program.procs frame.procedure) ≡ Some (proc, frame)
    named = ap (framed_in (layer + 1) frame) there ∙ ap (λ (b : Bool). if◌then◌else◌ {A = Option (Proc × Activation)} b (Some (proc, frame)) None) layered

    by_state : (state : State) → state_doing (program_at program layer) caller state ≡ does.Enters frame place → framed_state program (layer + 1) (state_after state (change.Enters frame place)) ≡ Some (proc, frame)
    by_state Before q = named
    by_state (Inside below top) q = named
    by_state After q = absurd cc
