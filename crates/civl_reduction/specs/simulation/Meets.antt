-- A configuration of the program of a layer beside a block run of the program below. Its threads are those of the run, but for
-- the frames of the layer's procedures: where such a frame has passed no commit, its thread stands beside before the call of
-- the refined action, and else behind it. The stores agree on the globals of the upper program, of which those that the layer
-- introduces have the values that the intros gave them. (Refinement mappings: Abadi, Lamport, The existence of refinement
-- mappings, 1991; of layers: Kragl, Qadeer, CAV 2018.)
use Rattle.std.specs.Prelude.{ℕ, ◌+◌, ◌≡◌, Bool, if◌then◌else◌, List, Option, None, Some, slice_get}
use Rattle.civl_bits.specs.declared.value.Value.{Value}
use Rattle.civl_tree.specs.declared.program.Proc.{Proc}
use Rattle.civl_tree.specs.declared.program.Program.{Program}
use Rattle.civl_firing.specs.declared.store.Store.{Store}
use Rattle.civl_firing.specs.Stores.{IsStore}
use Rattle.civl_meaning.specs.declared.config.Activation.{Activation}
use Rattle.civl_meaning.specs.declared.config.Move.{Move}
use Rattle.civl_meaning.specs.declared.config.Running.{Running}
use Rattle.civl_meaning.specs.declared.config.Config.{Config}
use Rattle.civl_meaning.specs.declared.config.Change.TheVariants as change
use Rattle.civl_meaning.specs.Change.{with_results, outs_in, new_frame, Doing, doing}
use Rattle.civl_meaning.specs.Config.{IsOf}
use Rattle.civl_meaning.specs.Layers.{program_at}
use Rattle.civl_meaning.specs.Step.{thread_after}
use Rattle.civl_conditions.specs.footprints.Agreement.{StoresAgree, exists_at}
use Rattle.civl_conditions.specs.Assumed.{inputs_of}
use Rattle.civl_meaning.specs.Change as does
use Rattle.civl_reduction.specs.blocks.Blocks.{frame_of_layer}
use Rattle.civl_reduction.specs.blocks.Shadow.{Shadowed, shadowed, seen}

-- a thread behind a call of an action that gave these outputs
abbrev pub behind : Running → Doing → List Value → Running
behind thread (does.Calls names locals results next action args) outs = thread_after thread (change.Goes (with_results names locals results outs) next)
behind thread _ outs = thread

-- In the program of this layer the thread stands in the frame. Before the call that made the frame it stood as the caller does;
-- the frame's parameters have the values of the call's arguments.
pub record WasCalled (program : Program) (layer : ℕ) (f : Proc × Activation) (thread caller : Running) : Type 0 where
  pub args : List Value
  pub place : ℕ
  pub enters : doing (program_at program layer) caller ≡ does.Enters (new_frame f.1.procedure f.0 args) place
  pub inputs : inputs_of f.0 f.1.locals ≡ args
  pub stands : thread ≡ thread_after caller (change.Enters f.1 place)

-- what stands beside it: the caller before the call, or behind that of the refined action, with the frame's outputs
abbrev pub beside : Program → ℕ → Bool → Proc × Activation → Running → Running
beside program layer done f caller = if done then behind caller (doing (program_at program (layer + 1)) caller) (outs_in f.0 f.1.locals) else caller

-- a thread with its topmost frame, if that is of a procedure of the layer above, and the thread beside it
abbrev pub FrameMeets : Program → ℕ → Bool → Running → Option (Proc × Activation) → Running → Type 0
FrameMeets program layer done low None high = low ≡ high
FrameMeets program layer done low (Some f) high = (caller : Running) × WasCalled program layer f low caller × (high ≡ beside program layer done f caller)

-- both are there, or neither
abbrev pub ThreadMeets : Program → ℕ → Bool → Option Running → Option Running → Type 0
ThreadMeets program layer done None None = Unit {0}
ThreadMeets program layer done (Some low) (Some high) = FrameMeets program layer done low (frame_of_layer program (layer + 1) low) high
ThreadMeets program layer done _ _ = ⊥

-- a configuration of the upper program beside one of the program of this layer, with the shadow of the run that led there
pub record MeetsBeside (program : Program) (layer : ℕ) (s : Shadowed) (x : Config) : Type 0 where
  pub of_lower : IsOf (program_at program layer) s.config
  pub of_upper : IsOf (program_at program (layer + 1)) x
  pub fits : IsStore program.globals s.shadow.store
  pub stores : StoresAgree (exists_at (layer + 1)) program.globals (seen program layer s) x.store
  pub threads : (t : ℕ) → ThreadMeets program layer (s.shadow.done t) (slice_get s.config.threads t) (slice_get x.threads t)

-- beside the end of the run of these moves from this store
pub record Meets (program : Program) (layer : ℕ) (store : Store) (moves : List Move) (end x : Config) : Type 0 where
  pub leads : (shadowed program layer store moves).config ≡ end
  pub meets : MeetsBeside program layer (shadowed program layer store moves) x
