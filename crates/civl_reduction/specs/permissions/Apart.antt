-- Two threads before calls of actions: their linear inputs and the linear globals carry no permission twice. So the
-- conditions on movers speak of them.
use Rattle.std.specs.Prelude.{ℕ, ◌≡◌, ◌≢◌, ◌≤◌, List, None, Some, slice_get, IsTrue, All}
use Rattle.civl_firing.specs.values.Values.{HaveSorts}
use Rattle.civl_tree.specs.declared.action.Action.{Action}
use Rattle.civl_tree.specs.declared.name.Name.{Name}
use Rattle.civl_tree.specs.declared.expr.Expr.{Expr}
use Rattle.civl_tree.specs.declared.stmt.Stmt.{Stmt, out-Stmt}
use Rattle.civl_tree.specs.declared.stmt.Stmt.TheOpen.{Spawn}
use Rattle.civl_tree.specs.declared.program.Proc.{Proc}
use Rattle.civl_tree.specs.declared.program.Program.{Program}
use Rattle.civl_tree.specs.Numbering.{statement_at}
use Rattle.civl_tree.specs.SpellingDomain.{allows_program}
use Rattle.civl_tree.specs.rules.Uses.{param_sorts}
use Rattle.civl_tree.specs.rules.Rules.{Keeps}
use Rattle.civl_firing.specs.declared.store.Store.{Store}
use Rattle.civl_firing.specs.Stores.{IsStore}
use Rattle.civl_meaning.specs.declared.config.Move.{Move}
use Rattle.civl_meaning.specs.declared.config.Running.{Running}
use Rattle.civl_meaning.specs.declared.config.Config.{Config}
use Rattle.civl_meaning.specs.Step.{start}
use Rattle.civl_meaning.specs.Run.{RunsTo}
use Rattle.civl_meaning.specs.Failing.{IsMove}
use Rattle.civl_meaning.specs.Layers.{program_at}
use Rattle.civl_meaning.specs.Initial.{IsInitial}
use Rattle.civl_soundness.specs.Stepped.{next_action}
use Rattle.civl_layers.specs.Ranges.{exists_in}
use Rattle.civl_layers.specs.Names.{action_range}
use Rattle.civl_layers.specs.Layered.{IsLayered}
use Rattle.civl_linear.specs.LinearRules.{linear_rules}
use Rattle.civl_conditions.specs.Values.{Invoked}
use Rattle.civl_conditions.specs.Movers.{apart}
use Rattle.civl_reduction.specs.permissions.Stay.{KeepsPermissions}

-- spawns stand in roots alone
abbrev pub SpawnsStandInRoots : Program → Type 0
SpawnsStandInRoots program =
    (number : ℕ) (proc : Proc) → slice_get program.procs number ≡ Some proc → (place : ℕ) (stmt : Stmt) → statement_at proc.body place ≡ Some stmt
    → (callee : Name) (args : List Expr) → out-Stmt stmt ≡ Spawn callee args → proc.refines ≡ None

-- a thread of this number stands before a call of x's action with x's inputs, in the program of this layer
pub record StandsBefore (program : Program) (layer : ℕ) (config : Config) (t : ℕ) (x : Invoked) : Type 0 where
  pub thread : Running
  pub there : slice_get config.threads t ≡ Some thread
  pub next : next_action (program_at program layer) thread ≡ Some (x.action, x.inputs)

-- the action with this number, which exists from this layer or a lower one on, with inputs of its sorts
pub record IsMet (program : Program) (layer : ℕ) (x : Invoked) : Type 0 where
  pub number : ℕ
  pub action : slice_get program.actions number ≡ Some x.action
  pub first : x.action.first ≤ layer
  pub inputs : HaveSorts x.inputs (param_sorts x.action.params)

-- where configurations stay parted, the calls before which threads stand are of actions of the layer, with inputs of their
-- sorts, and two of them, of different threads, are apart
abbrev pub CallsAreApart : Type 0
CallsAreApart =
    (program : Program) (layer : ℕ) (store : Store) (moves : List Move) (config : Config)
    → IsTrue (allows_program program) → IsLayered program → Keeps linear_rules program
    → ((number : ℕ) (action : Action) → slice_get program.actions number ≡ Some action → action.first ≤ layer → KeepsPermissions program action)
    → IsInitial program store → All IsMove moves → RunsTo (program_at program layer) moves (start (program_at program layer) store) config
    → (t : ℕ) (x : Invoked) → StandsBefore program layer config t x
    → IsMet program layer x × ((u : ℕ) (y : Invoked) → t ≢ u → StandsBefore program layer config u y → IsTrue (apart program config.store x y))

-- those actions exist in the layer, where spawns stand in roots
abbrev pub CallsExist : Type 0
CallsExist =
    (program : Program) (layer : ℕ) (store : Store) (moves : List Move) (config : Config)
    → IsLayered program → Keeps linear_rules program → SpawnsStandInRoots program → layer ≤ program.layers
    → IsStore program.globals store → All IsMove moves → RunsTo (program_at program layer) moves (start (program_at program layer) store) config
    → (t : ℕ) (x : Invoked) → StandsBefore program layer config t x → IsTrue (exists_in layer (action_range x.action))
