-- The variables of goals, in their order, with their printed names.
use Rattle.std.specs.Prelude.{ℕ, ◌+◌, List, [], ◌++◌, length, codes}
use Rattle.std.specs.Option.{option_map_or}
use Rattle.civl_tree.specs.declared.stmt.Stmt.{out-Stmt}
use Rattle.civl_tree.specs.declared.action.Choice.{Choice}
use Rattle.civl_tree.specs.declared.program.Proc.{Proc}
use Rattle.civl_tree.specs.declared.program.Program.{Program}
use Rattle.civl_tree.specs.Numbering.{statement_at}
use Rattle.civl_meaning.specs.Layers.{topmost}
use Rattle.civl_conditions.specs.declared.condition.Variable.{Variable}
use Rattle.civl_conditions.specs.declared.condition.Condition.TheVariants.{Keep as KeepsPermissions}
use Rattle.civl_conditions.specs.Steps.{of_proc}
use Rattle.civl_conditions.specs.Variables.{of_globals, of_params, of_choices, of_locals, layer_choices, call_front, variables as condition_variables}
use Rattle.civl_goals.specs.declared.goal.Goal.{Goal}
use Rattle.civl_goals.specs.declared.goal.Goal.TheVariants as goal
use Rattle.civl_goals.specs.Outlines.{top_globals}

-- the parameters, outputs and locals of a procedure
abbrev pub of_names : List ℕ → Proc → List Variable
of_names front proc = of_params front proc.params ++ (of_params front proc.outs ++ of_locals front proc.locals)

-- those of the procedure with this number
abbrev pub of_frame : List ℕ → Program → ℕ → List Variable
of_frame front program r = of_proc program r [] (of_names front)

-- how many there are
abbrev pub frame_count : Program → ℕ → ℕ
frame_count program r = of_proc program r 0 (λ proc. length proc.params + (length proc.outs + length proc.locals))

-- the choices of the action that the statement calls in the topmost program, where it calls one
abbrev pub choices_at : Program → ℕ → ℕ → List Choice
choices_at program r s = of_proc program r [] (λ proc. option_map_or (λ stmt. layer_choices (topmost program) (out-Stmt stmt)) (statement_at proc.body s) [])

-- the store, the root's frame, and the choices of its call
abbrev pub of_statement : Program → ℕ → ℕ → List Variable
of_statement program r s = of_globals [] (top_globals program) ++ (of_frame [] program r ++ of_choices (call_front s) (choices_at program r s))

unfoldable pub variables : Program → Goal → List Variable
variables program goal.Invariant = of_globals [] program.globals
variables program (goal.Thread i) = of_globals [] program.globals
variables program (goal.Linear x) = condition_variables program (KeepsPermissions (program.layers + 1) x)
variables program (goal.Safe r s) = of_statement program r s
variables program (goal.Keep r s) = of_statement program r s
variables program (goal.Spawn r s) = of_statement program r s
variables program (goal.Next r s) = of_statement program r s
variables program (goal.Other r s q t) = of_statement program r s ++ of_frame (codes "other.") program q
