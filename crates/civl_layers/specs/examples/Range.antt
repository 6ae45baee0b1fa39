-- E30: ranges and layers, and the order of codes, items and statements.
use Rattle.std.specs.Prelude.{codes, [], ◌∷◌}
use Rattle.civl_tree.specs.declared.expr.Expr as expr
use Rattle.civl_tree.specs.declared.stmt.Stmt as stmt
use Rattle.civl_tree.specs.examples.RulesFlag.{name}
use Rattle.civl_layers.specs.examples.Tower.{global, setting, low, mid, top, layered, calls, proc_p, proc_q, proc_r, with_globals, with_invariant, with_actions, with_procs, with_p, Stands, Falls}

abbrev pub RangesOfItems : Type 0
RangesOfItems =
    Falls (with_globals (global (codes "a") 1 0) (global (codes "b") 0 2) (global (codes "c") 1 2)) 30 0 0
    × Falls (with_globals (global (codes "a") 0 0) (global (codes "b") 0 2) (global (codes "c") 1 3)) 30 2 0
    × Falls (with_globals (global (codes "a") 0 0) (global (codes "b") 0 3) (global (codes "c") 1 3)) 30 1 0
    × Falls (with_invariant 0 expr.True) 30 4 0
    × Falls (with_invariant 3 expr.True) 30 4 0
    × Stands (with_invariant 2 expr.True)
    × Falls (with_actions (setting (codes "Low") 0 3 (codes "a")) mid top) 30 5 0
    × Falls (with_actions low mid (setting (codes "Top") 3 2 (codes "b"))) 30 7 0
    × Falls (with_procs (layered (codes "P") (codes "Mid") [] 0 []) proc_q proc_r) 30 8 0
    × Falls (with_procs proc_p (layered (codes "Q") (codes "Top") [] 3 []) proc_r) 30 9 0

-- the order of codes comes first, then that of items, then that of statements
abbrev pub FirstOfAll : Type 0
FirstOfAll =
    Falls (record (with_invariant 2 (name (codes "a"))) { procs = layered (codes "P") (codes "Mid") [] 0 [] ∷ [] }) 30 8 0
    × Falls (with_p (calls (codes "Q") ∷ stmt.Yield (name (codes "a")) ∷ [])) 32 8 0
    × Falls (with_p (calls (codes "Low") ∷ calls (codes "P") ∷ calls (codes "Q") ∷ [])) 32 8 1
    × Falls (with_procs (layered (codes "P") (codes "Mid") [] 1 (calls (codes "P") ∷ [])) (layered (codes "Q") (codes "Top") [] 2 (calls (codes "Q") ∷ [])) proc_r) 32 8 0
