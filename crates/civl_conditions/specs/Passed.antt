-- The variables of calls, each found by its statement's number; `push_choices_at` cites `choices_at`.
use Rattle.std.specs.Prelude.{ℕ, nat_lt, if◌then◌else◌, List, [], Option, None, Some, slice_get}
use Rattle.std.specs.Option.{option_map_or}
use Rattle.civl_tree.specs.declared.stmt.Stmt.{Stmt, out-Stmt}
use Rattle.civl_tree.specs.declared.action.Action.{Action}
use Rattle.civl_tree.specs.declared.program.Refines.{Refines}
use Rattle.civl_tree.specs.declared.program.Program.{Program}
use Rattle.civl_tree.specs.rules.Names.{action_named}
use Rattle.civl_meaning.specs.Layers.{program_at}
use Rattle.civl_conditions.specs.declared.condition.Variable.{Variable}
use Rattle.civl_conditions.specs.Variables.{of_choices, call_front, layer_choices}

-- the action that a procedure means in the program of a layer
abbrev pub refined_at : Program → ℕ → Option Refines → Option Action
refined_at program layer None = None
refined_at program layer (Some r) = if nat_lt layer r.layer then None else action_named program r.action

-- the choices of the call that has this number among these statements
abbrev pub choices_at : Program → ℕ → List Stmt → ℕ → List Variable
choices_at program layer stmts number = option_map_or (λ s. of_choices (call_front number) (layer_choices (program_at program layer) (out-Stmt s))) (slice_get stmts number) []
