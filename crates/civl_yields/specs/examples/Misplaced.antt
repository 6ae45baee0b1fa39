-- E51, E52 and E53: what stands inside rank loops, statements that may not stand in their procedure, stray `done` and
-- `old`.
use Rattle.std.specs.Prelude.{◌≡◌, true, false, codes, [], ◌∷◌}
use Rattle.civl_tree.specs.declared.expr.Expr.{Expr}
use Rattle.civl_tree.specs.declared.expr.Expr as expr
use Rattle.civl_tree.specs.declared.stmt.Stmt as stmt
use Rattle.civl_tree.specs.declared.stmt.Stmt.{Stmt}
use Rattle.civl_tree.specs.declared.action.Mover.TheVariants.{Atomic}
use Rattle.civl_tree.specs.examples.RulesFlag.{named, flag, do_set, call_set, root}
use Rattle.civl_yields.specs.Places.{insides_all, stmt_nested}
use Rattle.civl_yields.specs.examples.Yard.{layered, moving, yard, with_p, with_m, calls, pause, loop, yield_loop, rank_loop, Stands, Falls}

-- which statements stand inside rank loops
abbrev pub InsideRankLoops : Type 0
InsideRankLoops =
    (insides_all (stmt.Commit ∷ rank_loop (stmt.Commit ∷ pause ∷ []) ∷ pause ∷ []) false ≡ false ∷ false ∷ true ∷ true ∷ false ∷ [])
    × (insides_all (rank_loop (stmt.If expr.True [] (yield_loop [] ∷ []) ∷ []) ∷ []) false ≡ false ∷ true ∷ true ∷ [])
    × (insides_all (yield_loop (pause ∷ rank_loop (loop [] ∷ []) ∷ yield_loop [] ∷ []) ∷ []) false ≡ false ∷ false ∷ false ∷ true ∷ false ∷ [])

-- which of them may not stand there
abbrev pub NestedInRankLoops : Type 0
NestedInRankLoops =
    (stmt_nested pause true ≡ true)
    × (stmt_nested (loop []) true ≡ true)
    × (stmt_nested (yield_loop []) true ≡ true)
    × (stmt_nested (rank_loop []) true ≡ true)
    × (stmt_nested stmt.Commit true ≡ false)
    × (stmt_nested (yield_loop []) false ≡ false)

-- statements in roots and in layered procedures; the first one of all procedures
abbrev pub MisplacedStatements : Type 0
MisplacedStatements =
    Falls (with_m (calls (codes "P") ∷ stmt.Commit ∷ [])) 52 7 1
    × Falls (with_m (stmt.Intro (named (codes "x")) expr.True ∷ [])) 52 7 0
    × Falls (with_m (loop (pause ∷ []) ∷ [])) 52 7 1
    × Falls (with_m (rank_loop [] ∷ [])) 52 7 0
    × Falls (with_p (stmt.Commit ∷ loop [] ∷ [])) 52 5 1
    × Falls (yard (stmt.Spawn (named (codes "M")) [] ∷ []) (stmt.Commit ∷ [])) 52 5 0

abbrev pub spawn_set : Stmt
spawn_set = stmt.Spawn (named (codes "DoSet")) []

-- spawns in a root, and one in a procedure that sets a flag
abbrev pub SpawnsOfFlag : Type 0
SpawnsOfFlag =
    Stands (record flag { version = 2; procs = do_set (call_set ∷ stmt.Commit ∷ []) ∷ root (codes "Main") (spawn_set ∷ loop (spawn_set ∷ []) ∷ []) ∷ [] })
    × Falls (record flag { version = 2; procs = do_set (spawn_set ∷ call_set ∷ stmt.Commit ∷ []) ∷ [] }) 52 4 0

abbrev pub was : Expr
was = expr.Old (named (codes "x"))

-- `done` and `old` in items; items go by their order
abbrev pub StrayInItems : Type 0
StrayInItems =
    Falls (record (with_p (stmt.Assert was ∷ [])) { init = expr.Done }) 53 0 0
    × Falls (record (with_p []) { invariants = record { step = 1; expr = was } ∷ [] }) 53 1 0
    × Falls (record (with_p []) { actions = record (moving (codes "A") Atomic) { guard = expr.OldDone } ∷ [] }) 53 1 0
    × Falls (record (with_p []) { procs = layered (codes "P") (codes "A") (expr.True ∷ expr.Done ∷ []) (stmt.Assert was ∷ []) ∷ [] }) 53 5 0
    × Falls (record (with_p []) { threads = record { callee = named (codes "M"); args = was ∷ [] } ∷ [] }) 53 8 0

-- and in statements
abbrev pub StrayInStatements : Type 0
StrayInStatements =
    Stands (with_p (stmt.Yield expr.Done ∷ stmt.YieldLoop expr.True expr.Done [] ∷ stmt.RankLoop expr.True expr.True (expr.Pick expr.Done was expr.OldDone) [] ∷ []))
    × Falls (with_p (pause ∷ stmt.Assert expr.Done ∷ [])) 53 5 1
    × Falls (with_p (stmt.Yield expr.OldDone ∷ [])) 53 5 0
    × Falls (with_p (stmt.YieldLoop expr.True was [] ∷ [])) 53 5 0
    × Falls (with_p (stmt.RankLoop expr.True was expr.True [] ∷ [])) 53 5 0
    × Falls (with_m (stmt.If expr.True (stmt.Assert expr.Done ∷ []) [] ∷ [])) 53 7 1
