-- What is held at the cuts of a procedure.
use Rattle.std.specs.Prelude.{ℕ, ◌+◌, Bool, List, [], ◌∷◌, ◌++◌, Option, None, Some, is_some, map, if◌then◌else◌}
use Rattle.civl_tree.specs.declared.name.Name.{Name}
use Rattle.civl_tree.specs.declared.stmt.Stmt.{Stmt}
use Rattle.civl_tree.specs.declared.program.Refines.{Refines}
use Rattle.civl_tree.specs.declared.program.Proc.{Proc}
use Rattle.civl_tree.specs.declared.program.Program.{Program}
use Rattle.civl_tree.specs.Numbering.{statements_of}
use Rattle.civl_tree.specs.rules.Names.{names_in_proc}
use Rattle.civl_layers.specs.Cuts.{cut_kind}
use Rattle.civl_linear.specs.Held.{entry_held, traced_proc}

-- the numbers of those of these names that are held, rising, where the first has this number
abbrev pub held_numbers : ℕ → List Name → List Bool → List ℕ
held_numbers number [] held = []
held_numbers number (name ∷ names) [] = []
held_numbers number (name ∷ names) (is_held ∷ held) = (if is_held then number ∷ [] else []) ++ held_numbers (number + 1) names held

-- the numbers held at the cuts among these statements, before each of which this is held
abbrev pub held_at_cuts : List Name → List Stmt → List (List Bool) → List (List ℕ)
held_at_cuts names [] befores = []
held_at_cuts names (stmt ∷ stmts) [] = []
held_at_cuts names (stmt ∷ stmts) (held ∷ befores) = (if is_some (cut_kind stmt) then held_numbers 0 names held ∷ [] else []) ++ held_at_cuts names stmts befores

-- at the entry, and at each cut in the body; a root has no cuts
abbrev pub held_under : Program → Proc → Option Refines → List (List ℕ)
held_under program proc None = []
held_under program proc (Some refines) =
    held_numbers 0 (names_in_proc proc) (entry_held proc) ∷ held_at_cuts (names_in_proc proc) (statements_of proc.body) (traced_proc program proc).befores

-- for each cut of a procedure the numbers of the held locals; a number counts the procedure's parameters, outputs and
-- locals, in this order, from 0
abbrev pub held_of : Program → Proc → List (List ℕ)
held_of program proc = held_under program proc proc.refines

-- of each procedure
abbrev pub all_held : Program → List (List (List ℕ))
all_held program = map (held_of program) program.procs
