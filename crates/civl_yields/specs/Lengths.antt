-- What comes of going over statements stands beside them, with one entry for each: the phases before them, and whether
-- they stand inside rank loops. So a list that is read beside them ends where they do.
use Rattle.std.specs.Prelude.{◌≡◌, Bool, List, [], length, filter, Option, None, Some}
use Rattle.civl_tree.specs.declared.stmt.Stmt.{Stmt}
use Rattle.civl_tree.specs.declared.program.Refines.{Refines}
use Rattle.civl_tree.specs.declared.program.Proc.{Proc}
use Rattle.civl_tree.specs.declared.program.Program.{Program}
use Rattle.civl_tree.specs.Numbering.{statements_of}
use Rattle.civl_yields.specs.Phases.{phases_before, is_call, phases_of}
use Rattle.civl_yields.specs.Places.{insides_all}

-- before each statement of a body there is a phase
abbrev pub PhaseBeforeEach : Type 0
PhaseBeforeEach = (program : Program) (body : List Stmt) → length (phases_before program body) ≡ length (statements_of body)

-- each statement of a body is told whether it stands inside a rank loop
abbrev pub EachIsInside : Type 0
EachIsInside = (body : List Stmt) (inside : Bool) → length (insides_all body inside) ≡ length (statements_of body)

-- the call statements of a body in text order, where it refines an action; of a root none counts
abbrev pub layered_calls : Option Refines → List Stmt → List Stmt
layered_calls None body = []
layered_calls (Some refines) body = filter is_call (statements_of body)

-- before each call statement of a layered procedure there is a phase
abbrev pub PhaseBeforeEachCall : Type 0
PhaseBeforeEachCall = (program : Program) (proc : Proc) → length (phases_of program proc) ≡ length (layered_calls proc.refines proc.body)
