-- What a thread does next in the programs of two layers, one above the other: the same, but where it calls a procedure of the
-- upper layer. There it enters the procedure's body in the lower program, and calls the action that the procedure refines in
-- the upper one. (Layered programs: Hawblitzel, Petrank, Qadeer, Tasiran, CAV 2015; Kragl, Qadeer, CAV 2018.)
use Rattle.std.specs.Prelude.{ℕ, ◌+◌, ◌≡◌, List, Some, slice_get, IsTrue, ◌⊎◌}
use Rattle.civl_bits.specs.declared.value.Value.{Value}
use Rattle.civl_tree.specs.declared.name.Name.{Name}
use Rattle.civl_tree.specs.declared.action.Action.{Action}
use Rattle.civl_tree.specs.declared.program.Proc.{Proc}
use Rattle.civl_tree.specs.declared.program.Program.{Program}
use Rattle.civl_meaning.specs.declared.config.Running.{Running}
use Rattle.civl_meaning.specs.Change.{new_frame, Doing, Enters, Calls, doing}
use Rattle.civl_meaning.specs.Layers.{program_at}
use Rattle.civl_layers.specs.Layered.{IsLayered}
use Rattle.civl_conditions.specs.Steps.{has_layer}
use Rattle.civl_conditions.specs.Assumed.{refined_action}

-- one enters the body of this procedure of the layer, and the other calls its action with the same arguments
pub record CallsInstead (program : Program) (layer : ℕ) (upper lower : Doing) : Type 0 where
  pub number : ℕ
  pub proc : Proc
  pub there : slice_get program.procs number ≡ Some proc
  pub layered : IsTrue (has_layer layer proc)
  pub action : Action
  pub refined : refined_action program proc ≡ Some action
  pub args : List Value
  pub place : ℕ
  pub enters : lower ≡ Enters (new_frame number proc args) place
  pub names : List Name
  pub locals : List Value
  pub results : List Name
  pub next : ℕ
  pub calls : upper ≡ Calls names locals results next action args

abbrev pub ThreadsDoAlike : Type 0
ThreadsDoAlike =
    (program : Program) (layer : ℕ) (thread : Running) → IsLayered program
    → (doing (program_at program (layer + 1)) thread ≡ doing (program_at program layer) thread)
    ⊎ CallsInstead program (layer + 1) (doing (program_at program (layer + 1)) thread) (doing (program_at program layer) thread)
