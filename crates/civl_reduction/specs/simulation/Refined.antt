-- What blocks of a layer's procedures have to be, so that the program of the layer follows them: each is no step of it, or one of
-- the refined action. (Refinement by blocks between yields: Hawblitzel, Petrank, Qadeer, Tasiran, CAV 2015; Kragl, Qadeer, CAV
-- 2018; stuttering: Abadi, Lamport, The existence of refinement mappings, 1991.)
use Rattle.std.specs.Prelude.{ℕ, ◌+◌, ◌≡◌, Bool, true, false, List, [], Option, None, Some, IsTrue, All, ◌⊎◌}
use Rattle.civl_bits.specs.Value.{IsValue}
use Rattle.civl_bits.specs.declared.value.Value.{Value}
use Rattle.civl_tree.specs.declared.action.Action.{Action}
use Rattle.civl_tree.specs.declared.program.Proc.{Proc}
use Rattle.civl_tree.specs.declared.program.Program.{Program}
use Rattle.civl_firing.specs.declared.store.Store.{Store}
use Rattle.civl_firing.specs.Stores.{IsStore}
use Rattle.civl_firing.specs.Eval.{values_of}
use Rattle.civl_firing.specs.Fired.{gate_holds, choices_fit, fires}
use Rattle.civl_meaning.specs.declared.config.Activation.{Activation}
use Rattle.civl_meaning.specs.Change.{outs_in}
use Rattle.civl_conditions.specs.footprints.Agreement.{StoresAgree, exists_at}
use Rattle.civl_conditions.specs.paths.NoteValues.{plain_note_values}
use Rattle.civl_conditions.specs.Assumed.{refined_action, with_of, inputs_of}
use Rattle.civl_reduction.specs.blocks.Blocks.{rest_of}
use Rattle.civl_reduction.specs.blocks.Cuts.{frame_at, settled}
use Rattle.civl_reduction.specs.blocks.Shadow.{Shadowed, seen, course_of, progress_in}
use Rattle.civl_reduction.specs.staged.Stops.{StopsAt}

-- what the program of the layer sees of a thread in a procedure: the store, whether a commit was passed, and the outputs
pub record Sight : Type 0 where
  pub store : Store
  pub done : Bool
  pub outs : List Value

-- the refined action goes from the one to the other, with these inputs and choices that were picked so
pub record Acts (picked : List Value → Type 0) (program : Program) (layer : ℕ) (proc : Proc) (inputs : List Value) (before after : Sight) : Type 0 where
  pub action : Action
  pub refined : refined_action program proc ≡ Some action
  pub gate : IsTrue (gate_holds program.globals before.store action inputs)
  pub chosen : List Value
  pub picks : picked chosen
  pub values : All IsValue chosen
  pub fit : IsTrue (choices_fit action chosen)
  pub to : Store
  pub fires : fires program.globals before.store action inputs chosen ≡ Some (to, after.outs)
  pub globals : StoresAgree (exists_at layer) program.globals to after.store

-- without a new commit nothing of it changes that the layer's program sees, and a new commit is a step of the action
pub record IsRefined (picked : List Value → Type 0) (program : Program) (layer : ℕ) (proc : Proc) (inputs : List Value) (before after : Sight) : Type 0 where
  pub stays : before.done ≡ true → after.done ≡ true
  pub same : after.done ≡ before.done → StoresAgree (exists_at layer) program.globals before.store after.store
  pub outs : before.done ≡ true → after.outs ≡ before.outs
  pub acts : before.done ≡ false → after.done ≡ true → Acts picked program layer proc inputs before after

-- ---- a block of a thread

abbrev pub sight : Program → ℕ → Shadowed → ℕ → Proc × Activation → Sight
sight program layer s t f = record { store = seen program layer s; done = s.shadow.done t; outs = outs_in f.0 f.1.locals }

-- before it: the thread stands in its frame, or before the call that makes it
abbrev pub sight_before : Program → ℕ → Shadowed → ℕ → Option (Proc × Activation) → Sight
sight_before program layer s t None = record { store = seen program layer s; done = false; outs = [] }
sight_before program layer s t (Some f) = sight program layer s t f

-- ---- the choices of the refined action

-- the values of the expressions behind `with`, in a frame with these locals
abbrev pub with_values : Program → Proc → Store → List Value → List Value
with_values program proc store locals = values_of (plain_note_values program.globals proc store locals) (with_of proc.refines)

-- those at the end of a block without a step, which takes effect just before the thread's first step from its yield
abbrev pub IsPickedBefore : Program → ℕ → Shadowed → ℕ → Option (Proc × Activation) → List Value → Type 0
IsPickedBefore program layer s t None chosen = ⊥
IsPickedBefore program layer s t (Some f) chosen =
    (store : Store) × StopsAt (course_of program layer f.0) (settled (rest_of f)) (progress_in program layer t s.config.store s.shadow f.1) store × (chosen ≡ with_values program f.0 store f.1.locals)

-- or those at the end, with this frame
abbrev pub IsPicked : Program → ℕ → Shadowed → Shadowed → ℕ → Proc × Activation → List Value → Type 0
IsPicked program layer from to t f chosen =
    (chosen ≡ with_values program f.0 (seen program layer to) f.1.locals) ⊎ IsPickedBefore program layer from t (frame_at program (layer + 1) from.config.threads t) chosen

-- ---- the whole

-- behind it: the frame is still there, or was removed by the last step
abbrev pub last_frame : Option (Proc × Activation) → Option (Proc × Activation) → Option (Proc × Activation)
last_frame None before = before
last_frame (Some f) before = Some f

-- a block of thread t, from the first configuration to the last, with the one before its last step: it is refined, where the
-- refined action has choices that are picked so; and where its frame was removed a commit was passed
pub record BlockIsRefinedBy (picked : Proc × Activation → List Value → Type 0) (program : Program) (layer : ℕ) (from last to : Shadowed) (t : ℕ) : Type 0 where
  pub fits : IsStore program.globals to.shadow.store
  pub refined : (f : Proc × Activation) → last_frame (frame_at program (layer + 1) to.config.threads t) (frame_at program (layer + 1) last.config.threads t) ≡ Some f
      → IsRefined (picked f) program (layer + 1) f.0 (inputs_of f.0 f.1.locals) (sight_before program layer from t (frame_at program (layer + 1) from.config.threads t)) (sight program layer to t f)
  pub exit : (f : Proc × Activation) → frame_at program (layer + 1) to.config.threads t ≡ None → frame_at program (layer + 1) last.config.threads t ≡ Some f → to.shadow.done t ≡ true

-- by the expressions behind `with`
abbrev pub BlockIsRefined : Program → ℕ → Shadowed → Shadowed → Shadowed → ℕ → Type 0
BlockIsRefined program layer from last to t = BlockIsRefinedBy (IsPicked program layer from to t) program layer from last to t
