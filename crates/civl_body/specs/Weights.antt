-- What passing statements weighs, and which terms it leaves as they were.
use Rattle.std.specs.Prelude.{◌≡◌, ℕ, ◌*◌, Bool, false, not, ◌&&◌, if◌then◌else◌, List, map, flat_map, slice_get, Some}
use Rattle.civl_tree.specs.declared.name.Name.{Name}
use Rattle.civl_tree.specs.declared.stmt.Stmt.{Stmt, out-Stmt}
use Rattle.civl_tree.specs.declared.program.Proc.{Proc}
use Rattle.civl_tree.specs.declared.program.Program.{Program}
use Rattle.civl_tree.specs.rules.Names.{has_name, global_names, names_in_proc}
use Rattle.civl_meaning.specs.Layers.{program_at}
use Rattle.civl_meaning.specs.Rest.{Rest}
use Rattle.civl_linear.specs.Places.{is_param}
use Rattle.civl_actions.specs.Actions.{LeavesOthers}
use Rattle.civl_conditions.specs.Weights.{summed, layer_written, layer_weight}
use Rattle.civl_moves.specs.declared.sweep.Sweep.{Sweep}

-- statements that are passed, in the program of a layer
abbrev pub passed_weights : Program → ℕ → Proc → Rest → ℕ
passed_weights program layer proc passed = summed (map (λ q. layer_weight (program_at program layer) proc q.1 (out-Stmt q.1)) passed)

-- the most that terms for them add, where some path comes there
abbrev pub spent : Bool → ℕ → ℕ
spent onward weight = if onward then 4 * weight else 0

-- what these statements may write
abbrev pub written : Program → ℕ → List Stmt → List Name
written program layer stmts = flat_map (λ t. layer_written (program_at program layer) (out-Stmt t)) stmts

-- a name among these that is no parameter
abbrev pub may_change : Proc → List Name → Name → Bool
may_change proc names name = has_name names name && not (is_param proc name)

-- globals, outputs and locals with other names than these keep their terms, and so do parameters
pub record Leaves (program : Program) (proc : Proc) (names : List Name) (before after : Sweep) : Type 0 where
  pub globals : LeavesOthers (global_names program.globals) names before.globals after.globals
  pub locals : (place : ℕ) (name : Name) → slice_get (names_in_proc proc) place ≡ Some name → may_change proc names name ≡ false → slice_get after.locals place ≡ slice_get before.locals place
