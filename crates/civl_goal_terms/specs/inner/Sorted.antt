-- For private functions alone: the sorts of a goal's variables, group by group.
use Rattle.std.specs.Prelude.{ℕ, List, [], ◌++◌, map}
use Rattle.std.specs.Option.{option_map_or}
use Rattle.civl_tree.specs.declared.expr.Sort.{Sort}
use Rattle.civl_tree.specs.declared.stmt.Stmt.{out-Stmt}
use Rattle.civl_tree.specs.declared.action.Choice.{Choice}
use Rattle.civl_tree.specs.declared.program.Proc.{Proc}
use Rattle.civl_tree.specs.declared.program.Program.{Program}
use Rattle.civl_tree.specs.Numbering.{statement_at}
use Rattle.civl_meaning.specs.Config.{frame_sorts}
use Rattle.civl_meaning.specs.Layers.{topmost}
use Rattle.civl_conditions.specs.Steps.{of_action, of_proc}
use Rattle.civl_conditions.specs.Variables.{layer_choices}
use Rattle.civl_states.specs.declared.stores.Existing.TheVariants.{Layer}
use Rattle.civl_states.specs.Existing.{existing_sorts}
use Rattle.civl_states.specs.Runs.{instance_sorts}
use Rattle.civl_states.specs.Stores.{global_sorts}
use Rattle.civl_goals.specs.declared.goal.Goal.{Goal}
use Rattle.civl_goals.specs.declared.goal.Goal.TheVariants as goal
use Rattle.civl_goals.specs.Variables.{choices_at}

-- the globals of the topmost program
abbrev pub top_sorts : Program → List Sort
top_sorts program = existing_sorts (Layer program.layers) program

-- the parameters, outputs and locals of the procedure with this number
abbrev pub sorts_in_frame : Program → ℕ → List Sort
sorts_in_frame program r = of_proc program r [] frame_sorts

-- the choices of the action that the statement with this number calls
abbrev pub choices_in : Program → Proc → ℕ → List Choice
choices_in program proc s = option_map_or (λ stmt. layer_choices (topmost program) (out-Stmt stmt)) (statement_at proc.body s) []

abbrev pub chosen_sorts : Program → ℕ → ℕ → List Sort
chosen_sorts program r s = map (λ c. c.sort) (choices_at program r s)

abbrev pub statement_sorts : Program → ℕ → ℕ → List Sort
statement_sorts program r s = top_sorts program ++ (sorts_in_frame program r ++ chosen_sorts program r s)

abbrev pub grouped_sorts : Program → Goal → List Sort
grouped_sorts program goal.Invariant = global_sorts program
grouped_sorts program (goal.Thread i) = global_sorts program
grouped_sorts program (goal.Linear x) = top_sorts program ++ of_action program x [] instance_sorts
grouped_sorts program (goal.Safe r s) = statement_sorts program r s
grouped_sorts program (goal.Keep r s) = statement_sorts program r s
grouped_sorts program (goal.Spawn r s) = statement_sorts program r s
grouped_sorts program (goal.Next r s) = statement_sorts program r s
grouped_sorts program (goal.Other r s q t) = statement_sorts program r s ++ sorts_in_frame program q
