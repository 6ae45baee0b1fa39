-- Short ways to write programs with one step, for the examples.
use Rattle.std.specs.Prelude.{ℕ, ◌≡◌, Bool, true, List, [], ◌∷◌, map, Option, Some, ⊤}
use Rattle.civl_tree.specs.declared.expr.Expr.{Expr}
use Rattle.civl_tree.specs.declared.expr.Expr as expr
use Rattle.civl_tree.specs.declared.expr.One.TheVariants.{Not}
use Rattle.civl_tree.specs.declared.expr.Sort.{Sort}
use Rattle.civl_tree.specs.declared.action.Mover.{Mover}
use Rattle.civl_tree.specs.declared.action.Action.{Action}
use Rattle.civl_tree.specs.declared.program.Global.{Global}
use Rattle.civl_tree.specs.declared.program.Local.{Local}
use Rattle.civl_tree.specs.declared.program.Invariant.{Invariant}
use Rattle.civl_tree.specs.declared.program.Refines.{Refines}
use Rattle.civl_tree.specs.declared.program.Proc.{Proc}
use Rattle.civl_tree.specs.declared.program.Program.{Program}
use Rattle.civl_firing.specs.examples.Written.{named}

abbrev pub not_so : Expr → Expr
not_so e = expr.One Not e

-- `linear name : sort` with its layers
abbrev pub linear_global : List ℕ → Sort → ℕ → ℕ → Global
linear_global bytes sort first last = record { linear = true; name = named bytes; sort = sort; first = first; last = last }

-- `linear name : sort`
abbrev pub linear_local : List ℕ → Sort → Local
linear_local bytes sort = record { linear = true; name = named bytes; sort = sort }

-- an action as another mover
abbrev pub moving : Mover → Action → Action
moving mover a = record {
  name = a.name;
  params = a.params;
  outs = a.outs;
  choices = a.choices;
  first = a.first;
  last = a.last;
  mover = mover;
  gate = a.gate;
  guard = a.guard;
  updates = a.updates;
}

-- `refines bytes with (exprs) layer 1`
abbrev pub refines_with : List ℕ → List Expr → Option Refines
refines_with bytes exprs = Some (record { action = named bytes; with = exprs; layer = 1 })

abbrev pub of_step_one : Expr → Invariant
of_step_one e = record { step = 1; expr = e }

-- globals, actions and procedures with one step; `init` is true, and there are no threads
abbrev pub one_step : List Global → List Expr → List Action → List Proc → Program
one_step globals invariants actions procs = record {
  version = 1;
  layers = 1;
  permissions = 1;
  globals = globals;
  init = expr.True;
  invariants = map of_step_one invariants;
  actions = actions;
  procs = procs;
  threads = [];
}

-- ---- tables

-- each row gets the answer beside it
abbrev pub Tells : {A : Type 0} → (A → Bool) → List (A × Bool) → Type 0
Tells test [] = ⊤
Tells test (row ∷ rows) = (test row.0 ≡ row.1) × Tells test rows
