-- What is ahead in a block: whether a call of a right or atomic action may come before its end, on some way through loops and
-- branches. (Lipton, Reduction: a method of proving properties of parallel programs, 1975; Flanagan, Qadeer, A type and effect
-- system for atomicity, 2003.)
use Rattle.std.specs.Prelude.{Bool, false, ◌||◌, List, [], ◌∷◌, map}
use Rattle.civl_tree.specs.declared.name.Name.{Name}
use Rattle.civl_tree.specs.declared.stmt.Stmt.{Stmt}
use Rattle.civl_tree.specs.declared.stmt.Stmt.TheOpen.{Stmt-F, If, While, YieldLoop, RankLoop, Call, Yield}
use Rattle.civl_tree.specs.declared.stmt.Stmt.TheFolds.{fold-Stmt}
use Rattle.civl_tree.specs.declared.program.Program.{Program}
use Rattle.civl_meaning.specs.Rest.{Rest}
use Rattle.civl_yields.specs.Movers.{called_action}
use Rattle.civl_yields.specs.Places.{too_late}

-- a call of this name in a procedure, of the action that it means just below the procedure's layer, is of no left mover
abbrev pub stops : Program → Name → Bool
stops program name = too_late (called_action program name)

-- whether such a call is ahead before statements, where it is told whether one is ahead behind them
abbrev pub Ahead : Type 0
Ahead = Bool → Bool

abbrev pub ahead_all : List Ahead → Ahead
ahead_all [] later = later
ahead_all (statement ∷ statements) later = statement (ahead_all statements later)

-- a loop may be gone through again, and a block ends before a yield and a yield loop
abbrev pub ahead_step : Program → Stmt-F Ahead → Ahead
ahead_step program (Call callee args results) later = stops program callee || later
ahead_step program (If test first second) later = ahead_all first later || ahead_all second later
ahead_step program (While test body) later = ahead_all body false || later
ahead_step program (RankLoop test rank inv body) later = ahead_all body false || later
ahead_step program (YieldLoop test inv body) later = false
ahead_step program (Yield inv) later = false
ahead_step program _ later = later

-- before a statement
abbrev pub ahead : Program → Stmt → Ahead
ahead program = fold-Stmt Ahead (ahead_step program)

-- before these statements
abbrev pub ahead_list : Program → List Stmt → Ahead
ahead_list program statements = ahead_all (map (ahead program) statements)

-- in what is still to run
abbrev pub ahead_in : Program → Rest → Bool
ahead_in program [] = false
ahead_in program (q ∷ rest) = ahead program q.1 (ahead_in program rest)
