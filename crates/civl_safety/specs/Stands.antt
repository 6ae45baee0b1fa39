-- What an outline says of a configuration: the store meets the invariant, no thread holds a permission of another's, and each thread
-- stands at a place whose note holds. (Owicki and Gries, 1976.)
use Rattle.std.specs.Prelude.{◌≡◌, List, [], Some, slice_get, IsTrue, All}
use Rattle.civl_tree.specs.declared.program.Proc.{Proc}
use Rattle.civl_tree.specs.declared.program.Program.{Program}
use Rattle.civl_outlines.specs.declared.outline.Outline.{Outline}
use Rattle.civl_firing.specs.declared.store.Store.{Store}
use Rattle.civl_meaning.specs.declared.config.Move.{Move}
use Rattle.civl_meaning.specs.declared.config.State.{State}
use Rattle.civl_meaning.specs.declared.config.State.TheVariants.{Before, Inside, After}
use Rattle.civl_meaning.specs.declared.config.Running.{Running}
use Rattle.civl_meaning.specs.declared.config.Config.{Config}
use Rattle.civl_meaning.specs.Change.{new_frame}
use Rattle.civl_meaning.specs.Failing.{IsMove}
use Rattle.civl_meaning.specs.Layers.{topmost}
use Rattle.civl_meaning.specs.Run.{RunsTo}
use Rattle.civl_meaning.specs.Step.{start}
use Rattle.civl_reduction.specs.permissions.Owned.{IsParted}
use Rattle.civl_goals.specs.Outlines.{invariant_holds, note_holds}
use Rattle.civl_safety.specs.Outlined.{IsProved}

-- before its first step a thread stands before the first statement of its procedure, where it will have its arguments and zeros; then
-- it has one frame alone
abbrev pub StateStands : Program → Outline → Store → Running → State → Type 0
StateStands program outline store thread Before =
    (proc : Proc) → slice_get program.procs thread.callee ≡ Some proc → IsTrue (note_holds program outline store (new_frame thread.callee proc thread.args))
StateStands program outline store thread (Inside below frame) = (below ≡ []) × IsTrue (note_holds program outline store frame)
StateStands program outline store thread After = Unit {0}

abbrev pub ThreadStands : Program → Outline → Store → Running → Type 0
ThreadStands program outline store thread = StateStands program outline store thread thread.state

pub record Stands (program : Program) (outline : Outline) (config : Config) : Type 0 where
  pub invariant : IsTrue (invariant_holds program outline config.store)
  pub parted : IsParted program config
  pub threads : All (ThreadStands program outline config.store) config.threads

-- it holds of every configuration that a run of the topmost program reaches from an initial store
abbrev pub OutlineStays : Type 0
OutlineStays =
    (program : Program) (outline : Outline) (store : Store) (moves : List Move) (config : Config)
    → IsProved program outline store → All IsMove moves → RunsTo (topmost program) moves (start (topmost program) store) config → Stands program outline config
