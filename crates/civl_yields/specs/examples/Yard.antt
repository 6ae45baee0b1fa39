-- A program with an action of each kind, and words for edited copies of it:
--
--     civl 2; layers 1; permissions 1;
--     init true;
--     action R() -> () choose () layers 0 to 0 right gate true guard true { }
--     action L() -> () choose () layers 0 to 0 left gate true guard true { }
--     action A() -> () choose () layers 0 to 0 atomic gate true guard true { }
--     action B() -> () choose () layers 0 to 0 both gate true guard true { }
--     proc P() -> () refines A with () layer 1 { BODY }
--     proc Q() -> () refines L with () layer 1 { }
--     proc M() -> () root { BODY }
--     thread M();
--
-- Its items are 0 `init`, 1 to 4 the actions, 5 to 7 the procedures, 8 the thread.
use Rattle.std.specs.Prelude.{ℕ, ◌≡◌, List, [], ◌∷◌, Some, None, codes}
use Rattle.civl_tree.specs.declared.expr.Expr.{Expr}
use Rattle.civl_tree.specs.declared.expr.Expr as expr
use Rattle.civl_tree.specs.declared.stmt.Stmt.{Stmt}
use Rattle.civl_tree.specs.declared.stmt.Stmt as stmt
use Rattle.civl_tree.specs.declared.action.Mover.{Mover}
use Rattle.civl_tree.specs.declared.action.Mover.TheVariants.{Atomic, Right, Left, Both}
use Rattle.civl_tree.specs.declared.action.Action.{Action}
use Rattle.civl_tree.specs.declared.program.Proc.{Proc}
use Rattle.civl_tree.specs.declared.program.Program.{Program}
use Rattle.civl_tree.specs.examples.RulesFlag.{named, plain_action, root, call, bare}
use Rattle.civl_tree.specs.rules.Rules.{refusal_by}
use Rattle.civl_yields.specs.YieldRules.{yield_rules}

-- an action that does nothing and moves so
abbrev pub moving : List ℕ → Mover → Action
moving bytes mover = record (plain_action bytes 0 []) { mover = mover }

-- a procedure that refines this action with these values
abbrev pub layered : List ℕ → List ℕ → List Expr → List Stmt → Proc
layered bytes action values body = record (root bytes body) { refines = Some (record { action = named action; with = values; layer = 1 }) }

-- with these bodies of P and M
abbrev pub yard : List Stmt → List Stmt → Program
yard inner outer = record bare {
  version = 2;
  actions = moving (codes "R") Right ∷ moving (codes "L") Left ∷ moving (codes "A") Atomic ∷ moving (codes "B") Both ∷ [];
  procs = layered (codes "P") (codes "A") [] inner ∷ layered (codes "Q") (codes "L") [] [] ∷ root (codes "M") outer ∷ [];
  threads = record { callee = named (codes "M"); args = [] } ∷ [];
}

abbrev pub with_p : List Stmt → Program
with_p body = yard body []

abbrev pub with_m : List Stmt → Program
with_m body = yard [] body

-- `call NAME() -> ();`, `yield true;` and the loops, all with `true`
abbrev pub calls : List ℕ → Stmt
calls bytes = call bytes [] []

abbrev pub pause : Stmt
pause = stmt.Yield expr.True

abbrev pub loop : List Stmt → Stmt
loop body = stmt.While expr.True body

abbrev pub yield_loop : List Stmt → Stmt
yield_loop body = stmt.YieldLoop expr.True expr.True body

abbrev pub rank_loop : List Stmt → Stmt
rank_loop body = stmt.RankLoop expr.True expr.True expr.True body

-- ---- what is said of a program

-- it keeps the rules E50 to E53
abbrev pub Stands : Program → Type 0
Stands program = refusal_by yield_rules program ≡ None

-- the first of these rules that it breaks has this code, item and statement
abbrev pub Falls : Program → ℕ → ℕ → ℕ → Type 0
Falls program code item statement = refusal_by yield_rules program ≡ Some (record { code = code; item = item; statement = statement })
