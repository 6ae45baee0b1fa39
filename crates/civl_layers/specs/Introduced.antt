-- E35, Introduced: an intro whose target doesn't have the procedure's layer as its first layer; a linear global that
-- doesn't exist in all layers.
use Rattle.std.specs.Prelude.{ℕ, Bool, false, not, ◌&&◌, nat_eq, Option, None, Some}
use Rattle.civl_tree.specs.declared.stmt.Stmt.{Stmt, out-Stmt}
use Rattle.civl_tree.specs.declared.stmt.Stmt.TheOpen.{Stmt-F, Intro}
use Rattle.civl_tree.specs.declared.program.Global.{Global}
use Rattle.civl_tree.specs.declared.program.Refines.{Refines}
use Rattle.civl_tree.specs.declared.program.Program.{Program}
use Rattle.civl_layers.specs.Ranges.{exists_through}
use Rattle.civl_layers.specs.Names.{global_named, global_range}

-- a linear global exists in the layers 0 to the top
abbrev pub linear_hidden : Program → Global → Bool
linear_hidden program global = global.linear && not (exists_through 0 program.layers (global_range global))

-- a global, where there is one, doesn't begin with this layer
abbrev pub begins_elsewhere : ℕ → Option Global → Bool
begins_elsewhere layer None = false
begins_elsewhere layer (Some global) = not (nat_eq global.first layer)

-- a statement in a procedure of this layer
abbrev pub form_introduced : Program → ℕ → Stmt-F Stmt → Bool
form_introduced program layer (Intro target value) = begins_elsewhere layer (global_named program target)
form_introduced program layer _ = false

-- a root has no layer
abbrev pub stmt_introduced : Program → Option Refines → Stmt → Bool
stmt_introduced program None stmt = false
stmt_introduced program (Some refines) stmt = form_introduced program refines.layer (out-Stmt stmt)
