-- E50: calls behind the turning point of their block.
use Rattle.std.specs.Prelude.{ℕ, zero, suc, ◌≡◌, Bool, true, false, codes, List, [], ◌∷◌, Some}
use Rattle.civl_tree.specs.declared.expr.Expr as expr
use Rattle.civl_tree.specs.declared.stmt.Stmt as stmt
use Rattle.civl_tree.specs.declared.stmt.Stmt.{Stmt}
use Rattle.civl_tree.specs.declared.program.Proc.{Proc}
use Rattle.civl_tree.specs.declared.program.Program.{Program}
use Rattle.civl_tree.specs.examples.SpellingPrograms.{spinlock}
use Rattle.civl_tree.specs.examples.RulesFlag.{call, name, named, root}
use Rattle.civl_yields.specs.Phases.{phases_before, phases_of}
use Rattle.civl_yields.specs.YieldRules.{late_numbers}
use Rattle.civl_yields.specs.examples.Yard.{layered, with_p, with_m, calls, pause, loop, yield_loop, rank_loop, Stands, Falls}

-- right movers, a turning point, left movers; a procedure means the action that it refines
abbrev pub LateInOrder : Type 0
LateInOrder =
    Stands (with_p (calls (codes "R") ∷ calls (codes "B") ∷ calls (codes "A") ∷ calls (codes "L") ∷ calls (codes "B") ∷ []))
    × Falls (with_p (calls (codes "L") ∷ calls (codes "R") ∷ [])) 50 5 1
    × Falls (with_p (calls (codes "R") ∷ calls (codes "A") ∷ calls (codes "A") ∷ [])) 50 5 2
    × Falls (with_p (calls (codes "Q") ∷ calls (codes "B") ∷ calls (codes "R") ∷ [])) 50 5 2
    × Stands (with_p (calls (codes "L") ∷ pause ∷ calls (codes "R") ∷ calls (codes "Q") ∷ []))
    × Stands (with_m (calls (codes "L") ∷ calls (codes "R") ∷ calls (codes "A") ∷ []))

abbrev pub before_each : List Stmt → List Bool
before_each body = phases_before (with_p body) body

-- the phases before each statement: branches, and loops whose body may turn the phase at its end
abbrev pub PhasesOnSomeWay : Type 0
PhasesOnSomeWay =
    (before_each (stmt.If expr.True (calls (codes "L") ∷ []) [] ∷ calls (codes "A") ∷ []) ≡ false ∷ false ∷ true ∷ [])
    × (before_each (stmt.If expr.True [] (calls (codes "B") ∷ []) ∷ calls (codes "R") ∷ []) ≡ false ∷ false ∷ false ∷ [])
    × (before_each (rank_loop (calls (codes "R") ∷ calls (codes "L") ∷ []) ∷ calls (codes "B") ∷ []) ≡ false ∷ true ∷ true ∷ true ∷ [])
    × (before_each (rank_loop (calls (codes "R") ∷ []) ∷ calls (codes "B") ∷ []) ≡ false ∷ false ∷ false ∷ [])
    × (before_each (loop (calls (codes "A") ∷ []) ∷ []) ≡ false ∷ true ∷ [])
    × (before_each (rank_loop (rank_loop (calls (codes "R") ∷ []) ∷ calls (codes "L") ∷ []) ∷ []) ≡ false ∷ true ∷ true ∷ true ∷ [])

-- a block begins behind a yield, and each time at the head of a yield loop
abbrev pub PhasesBehindYields : Type 0
PhasesBehindYields =
    (before_each (calls (codes "L") ∷ yield_loop (calls (codes "R") ∷ calls (codes "L") ∷ []) ∷ calls (codes "A") ∷ []) ≡ false ∷ true ∷ false ∷ false ∷ false ∷ [])
    × (before_each (yield_loop (calls (codes "A") ∷ calls (codes "R") ∷ []) ∷ []) ≡ false ∷ false ∷ true ∷ [])
    × (before_each (rank_loop (pause ∷ calls (codes "L") ∷ rank_loop (calls (codes "R") ∷ []) ∷ []) ∷ []) ≡ false ∷ true ∷ false ∷ true ∷ true ∷ [])

-- the procedure at this place has this body
abbrev pub rebodied : ℕ → List Stmt → List Proc → List Proc
rebodied place body [] = []
rebodied zero body (proc ∷ procs) = record proc { body = body } ∷ procs
rebodied (suc place) body (proc ∷ procs) = proc ∷ rebodied place body procs

abbrev pub on_t : List ℕ → Stmt
on_t callee = call callee (name (codes "t") ∷ []) []

-- the spinlock, whose counter has this body of the procedure that increments it
abbrev pub with_incr : List Stmt → Program
with_incr body = record spinlock { procs = rebodied 4 body spinlock.procs }

-- what comes too late in this body
abbrev pub late_incr : List Stmt → List ℕ
late_incr body = late_numbers (with_incr body) (record (root (codes "Incr") body) { refines = Some (record { action = named (codes "AtomIncr"); with = []; layer = 2 }) })

-- the counter is read and written between the acquisition of the lock and its release; and the lock is released before
abbrev pub LateInSpinlock : Type 0
LateInSpinlock =
    (late_incr (on_t (codes "Acquire") ∷ on_t (codes "Read") ∷ on_t (codes "Write") ∷ on_t (codes "Release") ∷ stmt.Commit ∷ []) ≡ [])
    × (late_incr (on_t (codes "Acquire") ∷ on_t (codes "Release") ∷ on_t (codes "Acquire") ∷ on_t (codes "Read") ∷ on_t (codes "Write") ∷ on_t (codes "Release") ∷ stmt.Commit ∷ []) ≡ 2 ∷ [])

abbrev pub proc_p : List Stmt → Proc
proc_p body = layered (codes "P") (codes "A") [] body

abbrev pub phases : List Stmt → List Bool
phases body = phases_of (with_p body) (proc_p body)

-- the phases before calls, and none of a root
abbrev pub PhasesBeforeCalls : Type 0
PhasesBeforeCalls =
    (phases (calls (codes "R") ∷ stmt.Commit ∷ calls (codes "A") ∷ calls (codes "L") ∷ []) ≡ false ∷ false ∷ true ∷ [])
    × (phases (calls (codes "L") ∷ pause ∷ calls (codes "Q") ∷ calls (codes "B") ∷ []) ≡ false ∷ false ∷ true ∷ [])
    × (phases_of (with_p []) (root (codes "M") (calls (codes "L") ∷ calls (codes "L") ∷ [])) ≡ [])
