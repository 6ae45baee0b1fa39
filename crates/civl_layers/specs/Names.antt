-- The globals that an expression uses, and what a callee's name stands for.
use Rattle.std.specs.Prelude.{Bool, false, ◌||◌, Option}
use Rattle.std.specs.List.{find}
use Rattle.civl_tree.specs.declared.name.Name.{Name}
use Rattle.civl_tree.specs.declared.expr.Expr.{Expr}
use Rattle.civl_tree.specs.declared.expr.Expr.TheOpen as expr
use Rattle.civl_tree.specs.declared.expr.Expr.TheFolds.{fold-Expr}
use Rattle.civl_tree.specs.declared.action.Action.{Action}
use Rattle.civl_tree.specs.declared.program.Global.{Global}
use Rattle.civl_tree.specs.declared.program.Program.{Program}
use Rattle.civl_tree.specs.rules.Names.{same_name}
use Rattle.civl_layers.specs.Ranges.{Range}

-- the global of this name
abbrev pub global_named : Program → Name → Option Global
global_named program name = find (λ global. same_name name global.name) program.globals

abbrev pub global_range : Global → Range
global_range global = record { first = global.first; last = global.last }

abbrev pub action_range : Action → Range
action_range action = record { first = action.first; last = action.last }

-- an expression by its form: whether its own name, plain or in `old(name)`, passes a test, or one in its parts does
abbrev pub use_step : (Name → Bool) → expr.Expr-F Bool → Bool
use_step test (expr.Name name) = test name
use_step test (expr.Old name) = test name
use_step test (expr.One op part) = part
use_step test (expr.Two op first second) = first || second
use_step test (expr.Pick condition first second) = condition || (first || second)
use_step test (expr.Get row at) = row || at
use_step test (expr.Set row at cell) = row || (at || cell)
use_step test (expr.Fill index cell) = cell
use_step test (expr.Slice word high low) = word
use_step test (expr.Widen word wider) = word
use_step test (expr.Join first second) = first || second
use_step test _ = false

-- a name that stands in the expression passes the test
abbrev pub uses : (Name → Bool) → Expr → Bool
uses test = fold-Expr Bool (use_step test)
