-- Short ways to write trees and values, for the examples.
use Rattle.std.specs.Prelude.{ℕ, ◌≡◌, Bool, false, List, [], map, Option, None, Some}
use Rattle.civl_bits.specs.declared.value.Value.{Value}
use Rattle.civl_bits.specs.declared.value.Value.TheVariants as value
use Rattle.civl_tree.specs.declared.name.Name.{Name}
use Rattle.civl_tree.specs.declared.expr.Expr.{Expr}
use Rattle.civl_tree.specs.declared.expr.Expr as expr
use Rattle.civl_tree.specs.declared.expr.Sort.{Sort}
use Rattle.civl_tree.specs.declared.expr.Sort.TheVariants as sort
use Rattle.civl_tree.specs.declared.action.Mode.{Mode}
use Rattle.civl_tree.specs.declared.action.Mover.TheVariants.{Atomic}
use Rattle.civl_tree.specs.declared.action.Param.{Param}
use Rattle.civl_tree.specs.declared.action.Choice.{Choice}
use Rattle.civl_tree.specs.declared.action.Update.{Update}
use Rattle.civl_tree.specs.declared.action.Action.{Action}
use Rattle.civl_tree.specs.declared.program.Global.{Global}
use Rattle.civl_tree.specs.declared.program.Local.{Local}
use Rattle.civl_tree.specs.declared.program.Refines.{Refines}
use Rattle.civl_tree.specs.declared.program.Proc.{Proc}
use Rattle.civl_tree.specs.declared.program.Thread.{Thread}
use Rattle.civl_tree.specs.declared.stmt.Stmt.{Stmt}
use Rattle.civl_tree.specs.declared.stmt.Stmt as stmt
use Rattle.civl_firing.specs.declared.store.Store.{Store}
use Rattle.civl_firing.specs.declared.scope.Scope.{Scope}
use Rattle.civl_firing.specs.Eval.{value_of}
use Rattle.civl_firing.specs.Scope.{present_values}

-- a word of this width with this number
abbrev pub word : ℕ → ℕ → Value
word width number = value.Word (width, number)

abbrev pub bool : Bool → Value
bool b = value.Bool b

-- an array of cells of this width, with indices of this width
abbrev pub array : ℕ → ℕ → List ℕ → Value
array index width cells = value.Row (record { index = index; width = width; cells = cells })

-- the sort of such an array
abbrev pub array_sort : ℕ → ℕ → Sort
array_sort index width = sort.Row index width

-- the name that these bytes spell
abbrev pub named : List ℕ → Name
named bytes = record { bytes = bytes }

-- the expression that is a name
abbrev pub name : List ℕ → Expr
name bytes = expr.Name (named bytes)

-- `number:width`
abbrev pub lit : ℕ → ℕ → Expr
lit number width = expr.Literal number width

-- a scope with no names
abbrev pub nowhere : Scope
nowhere = present_values [] []

-- each expression of a table has the value beside it
abbrev pub Evaluates : Scope → List (Expr × Value) → Type 0
Evaluates scope table = map (λ r. value_of scope r.0) table ≡ map (λ r. r.1) table

abbrev pub global : List ℕ → Sort → ℕ → ℕ → Global
global bytes sort first last = record { linear = false; name = named bytes; sort = sort; first = first; last = last }

abbrev pub param : Mode → List ℕ → Sort → Param
param mode bytes sort = record { mode = mode; name = named bytes; sort = sort }

abbrev pub choice : List ℕ → Sort → Expr → Choice
choice bytes sort offer = record { name = named bytes; sort = sort; offer = offer }

abbrev pub local : List ℕ → Sort → Local
local bytes sort = record { linear = false; name = named bytes; sort = sort }

abbrev pub update : List ℕ → Expr → Update
update bytes e = record { target = named bytes; expr = e }

-- an atomic action with a gate, a guard and updates
abbrev pub action : List ℕ → List Param → List Param → List Choice → ℕ → ℕ → Expr → Expr → List Update → Action
action bytes params outs choices first last gate guard updates = record {
  name = named bytes;
  params = params;
  outs = outs;
  choices = choices;
  first = first;
  last = last;
  mover = Atomic;
  gate = gate;
  guard = guard;
  updates = updates;
}

-- `refines bytes with () layer k`
abbrev pub refines : List ℕ → ℕ → Option Refines
refines bytes k = Some (record { action = named bytes; with = []; layer = k })

abbrev pub root : Option Refines
root = None

abbrev pub proc : List ℕ → List Param → List Param → Option Refines → List Local → List Stmt → Proc
proc bytes params outs refines locals body =
    record { name = named bytes; params = params; outs = outs; refines = refines; locals = locals; body = body }

abbrev pub thread : List ℕ → List Expr → Thread
thread bytes args = record { callee = named bytes; args = args }

abbrev pub call : List ℕ → List Expr → List Name → Stmt
call bytes args results = stmt.Call (named bytes) args results

-- a store of these values
abbrev pub holding : List Value → Store
holding values = record { values = values }
