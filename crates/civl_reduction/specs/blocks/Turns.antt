-- Blocks turn once, where the rule on phases is kept: right movers come before the turn, and left movers behind it. (Lipton,
-- Reduction: a method of proving properties of parallel programs, 1975; Flanagan, Qadeer, A type and effect system for
-- atomicity, 2003.)
use Rattle.std.specs.Prelude.{ℕ, ◌+◌, ◌≡◌, ◌≢◌, true, false, List, ◌∷◌, Some, slice_get, IsTrue}
use Rattle.civl_bits.specs.declared.value.Value.{Value}
use Rattle.civl_tree.specs.declared.name.Name.{Name}
use Rattle.civl_tree.specs.declared.expr.Expr.{Expr}
use Rattle.civl_tree.specs.declared.action.Action.{Action}
use Rattle.civl_tree.specs.declared.stmt.Stmt.{Stmt, out-Stmt}
use Rattle.civl_tree.specs.declared.stmt.Stmt.TheOpen as stmt
use Rattle.civl_tree.specs.declared.program.Proc.{Proc}
use Rattle.civl_tree.specs.declared.program.Program.{Program}
use Rattle.civl_tree.specs.Numbering.{statement_at}
use Rattle.civl_tree.specs.rules.Rules.{Keeps}
use Rattle.civl_meaning.specs.declared.config.Running.{Running}
use Rattle.civl_meaning.specs.Meaning.{Runs, called}
use Rattle.civl_meaning.specs.Rest.{Rest, rest_at}
use Rattle.civl_meaning.specs.Layers.{program_at}
use Rattle.civl_meaning.specs.Config.{IsStacked}
use Rattle.civl_layers.specs.Layered.{IsLayered}
use Rattle.civl_conditions.specs.Steps.{has_layer}
use Rattle.civl_yields.specs.Movers.{called_action, turns}
use Rattle.civl_layers.specs.Movers.{is_left}
use Rattle.civl_yields.specs.YieldRules.{yield_rules}
use Rattle.civl_reduction.specs.interleavings.Reduction.{Between, Early, Late}
use Rattle.civl_reduction.specs.interleavings.Threads.{Doing, Fails, Waits, Goes, Spawns, Calls}
use Rattle.civl_meaning.specs.Change.{doing}
use Rattle.civl_reduction.specs.exchanges.Interleavings.{Call, whole}
use Rattle.civl_reduction.specs.blocks.Ahead.{ahead_in}
use Rattle.civl_reduction.specs.blocks.Stands.{stands}

-- ---- bodies

-- behind a call of an action that is no right mover, in a procedure of some layer, nothing is ahead that is no left mover
abbrev pub NothingAheadBehindTurns : Type 0
NothingAheadBehindTurns =
    (program : Program) (layer number place at : ℕ) (proc : Proc) (call : Stmt) (rest : Rest) (callee : Name) (args : List Expr) (results : List Name) (action : Action)
    → Keeps yield_rules program → slice_get program.procs number ≡ Some proc → IsTrue (has_layer layer proc)
    → rest_at proc.body place ≡ (at, call) ∷ rest → out-Stmt call ≡ stmt.Call callee args results → called_action program callee ≡ Some action → turns action.mover ≡ true
    → ahead_in program rest ≡ false

-- in the program of a layer a call in a procedure of the layer above runs no body
abbrev pub CallsRunNoBodies : Type 0
CallsRunNoBodies =
    (program : Program) (layer number at : ℕ) (proc : Proc) (call : Stmt) (callee : Name) (args : List Expr) (results : List Name)
    → IsLayered program → slice_get program.procs number ≡ Some proc → IsTrue (has_layer (layer + 1) proc)
    → statement_at proc.body at ≡ Some call → out-Stmt call ≡ stmt.Call callee args results → (n : ℕ) (body : Proc) → called (program_at program layer) callee ≢ Runs n body

-- ---- threads

-- what is so of what a late thread does next: a call is of a left mover; it isn't early then; it doesn't wait, and spawns none
abbrev pub LateDoes : Program → ℕ → Doing Running Call (List Value) → Type 0
LateDoes program layer Fails = Unit {0}
LateDoes program layer Waits = ⊥
LateDoes program layer (Goes after) = stands program layer after ≢ Early
LateDoes program layer (Spawns after new) = ⊥
LateDoes program layer (Calls call after) = (is_left call.0.mover ≡ true) × ((outs : List Value) → stands program layer (after outs) ≢ Early)

-- and of what any thread does next: if it is early behind a call, that is of a right mover; behind a spawn it stands between
-- blocks, and so does the new one
abbrev pub AnyDoes : Program → ℕ → Doing Running Call (List Value) → Type 0
AnyDoes program layer Fails = Unit {0}
AnyDoes program layer Waits = Unit {0}
AnyDoes program layer (Goes after) = Unit {0}
AnyDoes program layer (Spawns after new) = (stands program layer after ≡ Between) × (stands program layer new ≡ Between)
AnyDoes program layer (Calls call after) = (outs : List Value) → stands program layer (after outs) ≡ Early → turns call.0.mover ≡ false

-- of a thread whose frames wait in the calls that made the next, in the program of a layer
abbrev pub ThreadsTurnOnce : Type 0
ThreadsTurnOnce =
    (program : Program) (layer : ℕ) (thread : Running) → IsLayered program → Keeps yield_rules program → IsStacked (program_at program layer) thread
    → (stands program layer thread ≡ Late → LateDoes program layer (whole thread (doing (program_at program layer) thread)))
    × AnyDoes program layer (whole thread (doing (program_at program layer) thread))
