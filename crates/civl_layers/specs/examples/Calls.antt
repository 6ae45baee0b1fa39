-- E32 and E33: calls that don't go down, and actions that don't exist where they are needed.
use Rattle.std.specs.Prelude.{codes, List, [], ◌∷◌}
use Rattle.civl_tree.specs.declared.expr.Expr as expr
use Rattle.civl_tree.specs.declared.stmt.Stmt as stmt
use Rattle.civl_tree.specs.declared.program.Program.{Program}
use Rattle.civl_tree.specs.declared.stmt.Stmt.{Stmt}
use Rattle.civl_tree.specs.examples.RulesFlag.{root}
use Rattle.civl_layers.specs.examples.Tower.{setting, low, mid, top, layered, calls, spawns, proc_p, proc_q, proc_r, tower, with_procs, with_p, with_q, with_r, with_thread, Stands, Falls}

-- a second root S behind R
abbrev pub with_s : List Stmt → List Stmt → Program
with_s first second = record tower { procs = proc_p ∷ proc_q ∷ root (codes "R") first ∷ root (codes "S") second ∷ [] }

abbrev pub CallsGoDown : Type 0
CallsGoDown =
    Falls (with_p (stmt.Commit ∷ calls (codes "Q") ∷ [])) 32 8 1
    × Falls (with_p (calls (codes "P") ∷ [])) 32 8 0
    × Falls (with_p (calls (codes "R") ∷ [])) 32 8 0
    × Falls (with_q (stmt.If expr.True (stmt.Commit ∷ []) (calls (codes "P") ∷ calls (codes "Q") ∷ []) ∷ [])) 32 9 3
    × Falls (with_r (calls (codes "Q") ∷ calls (codes "R") ∷ [])) 32 10 1
    × Falls (with_r (spawns (codes "R") ∷ [])) 32 10 0
    × Falls (with_s (calls (codes "S") ∷ []) []) 32 10 0
    × Falls (with_s (spawns (codes "S") ∷ []) []) 32 10 0
    × Stands (with_s [] (calls (codes "R") ∷ spawns (codes "R") ∷ []))
    × Stands (with_q (spawns (codes "R") ∷ spawns (codes "Q") ∷ []))

-- an action is called outside its range; the action of a callee ends too early; a thread's callee's does; a refined action
-- doesn't exist in the procedure's layer
abbrev pub ActionsAreThere : Type 0
ActionsAreThere =
    Falls (with_p (stmt.Commit ∷ calls (codes "Mid") ∷ [])) 33 8 1
    × Falls (with_q (calls (codes "P") ∷ calls (codes "Low") ∷ [])) 33 9 1
    × Falls (with_r (calls (codes "Low") ∷ [])) 33 10 0
    × Falls (record (with_p (calls (codes "Low") ∷ [])) { actions = setting (codes "Low") 1 2 (codes "b") ∷ mid ∷ top ∷ [] }) 33 8 0
    × Stands (record (with_r (calls (codes "Low") ∷ [])) { actions = setting (codes "Low") 0 2 (codes "b") ∷ mid ∷ top ∷ [] })
    × Falls (record (with_r (calls (codes "Low") ∷ [])) { actions = setting (codes "Low") 0 1 (codes "b") ∷ mid ∷ top ∷ [] }) 33 10 0
    × Stands (record (with_q (calls (codes "Low") ∷ [])) { actions = setting (codes "Low") 0 1 (codes "b") ∷ mid ∷ top ∷ [] })
    × Falls (with_r (calls (codes "P") ∷ [])) 33 10 0
    × Falls (with_r (spawns (codes "P") ∷ [])) 33 10 0
    × Stands (record (with_r (calls (codes "P") ∷ spawns (codes "P") ∷ [])) { actions = low ∷ setting (codes "Mid") 1 2 (codes "c") ∷ top ∷ [] })
    × Falls (with_thread (codes "P")) 33 12 0
    × Falls (with_procs (layered (codes "P") (codes "Low") [] 1 []) proc_q proc_r) 33 8 0
    × Falls (with_procs proc_p (layered (codes "Q") (codes "Mid") [] 2 []) proc_r) 33 9 0
    × Stands (with_q (spawns (codes "Q") ∷ []))
