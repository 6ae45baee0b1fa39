-- A program of two layers, which keeps all rules from E10 to E35, and words for edited copies of it:
--
--     civl 2; layers 2; permissions 1;
--     global a : bool layers 0 to 0;
--     global b : bool layers 0 to 2;
--     global c : bool layers 1 to 2;
--     init true;
--     invariant 1 (a == c);
--     action Low() -> () choose () layers 0 to 0 atomic gate true guard true { a := true; }
--     action Mid() -> () choose () layers 1 to 1 atomic gate true guard true { c := true; }
--     action Top() -> () choose () layers 2 to 2 atomic gate true guard true { b := true; }
--     proc P() -> () refines Mid with () layer 1 { call Low() -> (); commit; intro c := true; }
--     proc Q() -> () refines Top with () layer 2 { call P() -> (); commit; }
--     proc R() -> () root { call Q() -> (); spawn Q(); }
--     thread R();
--     thread Q();
--
-- Its items are 0 to 2 the globals, 3 `init`, 4 the invariant, 5 to 7 the actions, 8 to 10 the procedures, 11 and 12 the
-- threads.
use Rattle.std.specs.Prelude.{ℕ, ◌≡◌, false, List, [], ◌∷◌, Some, None, codes}
use Rattle.civl_tree.specs.declared.expr.Expr.{Expr}
use Rattle.civl_tree.specs.declared.expr.Expr as expr
use Rattle.civl_tree.specs.declared.expr.Two.TheVariants.{Eq}
use Rattle.civl_tree.specs.declared.expr.Sort.TheVariants.{Bool as Truth}
use Rattle.civl_tree.specs.declared.stmt.Stmt.{Stmt}
use Rattle.civl_tree.specs.declared.stmt.Stmt as stmt
use Rattle.civl_tree.specs.declared.action.Action.{Action}
use Rattle.civl_tree.specs.declared.program.Global.{Global}
use Rattle.civl_tree.specs.declared.program.Invariant.{Invariant}
use Rattle.civl_tree.specs.declared.program.Proc.{Proc}
use Rattle.civl_tree.specs.declared.program.Thread.{Thread}
use Rattle.civl_tree.specs.declared.program.Program.{Program}
use Rattle.civl_tree.specs.rules.Rules.{refusal_by}
use Rattle.civl_tree.specs.rules.Typing.{typing_rules}
use Rattle.civl_tree.specs.examples.RulesFlag.{named, name, update, plain_action, root, call}
use Rattle.civl_layers.specs.LayerRules.{layer_rules}

-- `global NAME : bool layers FIRST to LAST;`
abbrev pub global : List ℕ → ℕ → ℕ → Global
global bytes first last = record { linear = false; name = named bytes; sort = Truth; first = first; last = last }

-- an action of these layers that sets this global
abbrev pub setting : List ℕ → ℕ → ℕ → List ℕ → Action
setting bytes first last target = record (plain_action bytes first (update target expr.True ∷ [])) { last = last }

abbrev pub low : Action
low = setting (codes "Low") 0 0 (codes "a")

abbrev pub mid : Action
mid = setting (codes "Mid") 1 1 (codes "c")

abbrev pub top : Action
top = setting (codes "Top") 2 2 (codes "b")

-- a procedure of this layer that refines this action with these values
abbrev pub layered : List ℕ → List ℕ → List Expr → ℕ → List Stmt → Proc
layered bytes action values layer body = record (root bytes body) { refines = Some (record { action = named action; with = values; layer = layer }) }

abbrev pub calls : List ℕ → Stmt
calls bytes = call bytes [] []

abbrev pub spawns : List ℕ → Stmt
spawns bytes = stmt.Spawn (named bytes) []

abbrev pub intro : List ℕ → Expr → Stmt
intro target value = stmt.Intro (named target) value

abbrev pub proc_p : Proc
proc_p = layered (codes "P") (codes "Mid") [] 1 (calls (codes "Low") ∷ stmt.Commit ∷ intro (codes "c") expr.True ∷ [])

abbrev pub proc_q : Proc
proc_q = layered (codes "Q") (codes "Top") [] 2 (calls (codes "P") ∷ stmt.Commit ∷ [])

abbrev pub proc_r : Proc
proc_r = root (codes "R") (calls (codes "Q") ∷ spawns (codes "Q") ∷ [])

abbrev pub runs : List ℕ → Thread
runs bytes = record { callee = named bytes; args = [] }

abbrev pub same : Expr → Expr → Expr
same first second = expr.Two Eq first second

-- `invariant STEP EXPR;`
abbrev pub invariant : ℕ → Expr → Invariant
invariant step fact = record { step = step; expr = fact }

abbrev pub tower : Program
tower = record {
  version = 2;
  layers = 2;
  permissions = 1;
  globals = global (codes "a") 0 0 ∷ global (codes "b") 0 2 ∷ global (codes "c") 1 2 ∷ [];
  init = expr.True;
  invariants = invariant 1 (same (name (codes "a")) (name (codes "c"))) ∷ [];
  actions = low ∷ mid ∷ top ∷ [];
  procs = proc_p ∷ proc_q ∷ proc_r ∷ [];
  threads = runs (codes "R") ∷ runs (codes "Q") ∷ [];
}

-- ---- edited copies: other globals, another invariant, other actions, other procedures or threads

abbrev pub with_globals : Global → Global → Global → Program
with_globals first second third = record tower { globals = first ∷ second ∷ third ∷ [] }

abbrev pub with_invariant : ℕ → Expr → Program
with_invariant step fact = record tower { invariants = invariant step fact ∷ [] }

abbrev pub with_actions : Action → Action → Action → Program
with_actions first second third = record tower { actions = first ∷ second ∷ third ∷ [] }

abbrev pub with_procs : Proc → Proc → Proc → Program
with_procs first second third = record tower { procs = first ∷ second ∷ third ∷ [] }

-- P, of layer 1, with this body; the same of Q, of layer 2, and of the root R
abbrev pub with_p : List Stmt → Program
with_p body = with_procs (record proc_p { body = body }) proc_q proc_r

abbrev pub with_q : List Stmt → Program
with_q body = with_procs proc_p (record proc_q { body = body }) proc_r

abbrev pub with_r : List Stmt → Program
with_r body = with_procs proc_p proc_q (record proc_r { body = body })

abbrev pub with_thread : List ℕ → Program
with_thread callee = record tower { threads = runs (codes "R") ∷ runs callee ∷ [] }

-- ---- what is said of a program

-- it keeps all rules from E30 to E35
abbrev pub Stands : Program → Type 0
Stands program = refusal_by layer_rules program ≡ None

-- the first of these rules that it breaks has this code, item and statement
abbrev pub Falls : Program → ℕ → ℕ → ℕ → Type 0
Falls program code item statement = refusal_by layer_rules program ≡ Some (record { code = code; item = item; statement = statement })

-- the program of two layers keeps all rules
abbrev pub TowerStands : Type 0
TowerStands = (refusal_by typing_rules tower ≡ None) × Stands tower
