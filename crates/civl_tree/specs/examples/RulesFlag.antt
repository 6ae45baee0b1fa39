-- A program with a flag, which keeps all static rules, and words for edited copies of it:
--
--     civl 1; layers 1; permissions 1;
--     global f : bool layers 0 to 1;
--     init true;
--     action Set() -> () choose () layers 0 to 0 atomic gate true guard true { f := true; }
--     action AtomSet() -> () choose () layers 1 to 1 atomic gate true guard true { f := true; }
--     proc DoSet() -> () refines AtomSet with () layer 1 { call Set() -> (); commit; }
--     thread DoSet();
--
-- Its items are 0 the global, 1 `init`, 2 and 3 the actions, 4 the procedure, 5 the thread.
use Rattle.std.specs.Prelude.{ℕ, ◌≡◌, false, List, [], ◌∷◌, Some, None, codes}
use Rattle.civl_tree.specs.declared.name.Name.{Name}
use Rattle.civl_tree.specs.declared.expr.Expr.{Expr}
use Rattle.civl_tree.specs.declared.expr.Expr as expr
use Rattle.civl_tree.specs.declared.expr.Sort.{Sort}
use Rattle.civl_tree.specs.declared.expr.Sort.TheVariants as sort
use Rattle.civl_tree.specs.declared.stmt.Stmt.{Stmt}
use Rattle.civl_tree.specs.declared.stmt.Stmt as stmt
use Rattle.civl_tree.specs.declared.action.Mode.TheVariants as mode
use Rattle.civl_tree.specs.declared.action.Mover.TheVariants as mover
use Rattle.civl_tree.specs.declared.action.Param.{Param}
use Rattle.civl_tree.specs.declared.action.Choice.{Choice}
use Rattle.civl_tree.specs.declared.action.Action.{Action}
use Rattle.civl_tree.specs.declared.action.Update.{Update}
use Rattle.civl_tree.specs.declared.program.Global.{Global}
use Rattle.civl_tree.specs.declared.program.Proc.{Proc}
use Rattle.civl_tree.specs.declared.program.Local.{Local}
use Rattle.civl_tree.specs.declared.program.Thread.{Thread}
use Rattle.civl_tree.specs.declared.program.Program.{Program}
use Rattle.civl_tree.specs.rules.Rules.{refusal_by}
use Rattle.civl_tree.specs.rules.Typing.{typing_rules}

abbrev pub named : List ℕ → Name
named bytes = record { bytes = bytes }

-- `global NAME : SORT layers 0 to 1;`
abbrev pub plain_global : List ℕ → Sort → Global
plain_global name sort = record { linear = false; name = named name; sort = sort; first = 0; last = 1 }

abbrev pub flag_global : Global
flag_global = plain_global (codes "f") sort.Bool

-- `NAME := EXPR;`
abbrev pub update : List ℕ → Expr → Update
update target value = record { target = named target; expr = value }

-- an action of one layer that does these updates
abbrev pub plain_action : List ℕ → ℕ → List Update → Action
plain_action name layer updates = record {
  name = named name;
  params = [];
  outs = [];
  choices = [];
  first = layer;
  last = layer;
  mover = mover.Atomic;
  gate = expr.True;
  guard = expr.True;
  updates = updates;
}

abbrev pub set_action : Action
set_action = plain_action (codes "Set") 0 (update (codes "f") expr.True ∷ [])

abbrev pub atom_set_action : Action
atom_set_action = plain_action (codes "AtomSet") 1 (update (codes "f") expr.True ∷ [])

-- `call Set() -> ();`
abbrev pub call_set : Stmt
call_set = stmt.Call (named (codes "Set")) [] []

-- the procedure with this body
abbrev pub do_set : List Stmt → Proc
do_set body = record {
  name = named (codes "DoSet");
  params = [];
  outs = [];
  refines = Some (record { action = named (codes "AtomSet"); with = []; layer = 1 });
  locals = [];
  body = body;
}

abbrev pub set_proc : Proc
set_proc = do_set (call_set ∷ stmt.Commit ∷ [])

-- `thread DoSet();`
abbrev pub set_thread : Thread
set_thread = record { callee = named (codes "DoSet"); args = [] }

abbrev pub flag : Program
flag = record {
  version = 1;
  layers = 1;
  permissions = 1;
  globals = flag_global ∷ [];
  init = expr.True;
  invariants = [];
  actions = set_action ∷ atom_set_action ∷ [];
  procs = set_proc ∷ [];
  threads = set_thread ∷ [];
}

-- ---- other programs

-- `civl 1; layers 1; permissions 1; init true;`, with item 0
abbrev pub bare : Program
bare = record { version = 1; layers = 1; permissions = 1; globals = []; init = expr.True; invariants = []; actions = []; procs = []; threads = [] }

-- a name, as an expression
abbrev pub name : List ℕ → Expr
name bytes = expr.Name (named bytes)

-- `val NAME : SORT`, and the same lent
abbrev pub val : List ℕ → Sort → Param
val bytes sort = record { mode = mode.Val; name = named bytes; sort = sort }

abbrev pub lend : List ℕ → Sort → Param
lend bytes sort = record { mode = mode.Lend; name = named bytes; sort = sort }

-- `NAME : SORT = EXPR`
abbrev pub choice : List ℕ → Sort → Expr → Choice
choice bytes sort offer = record { name = named bytes; sort = sort; offer = offer }

-- `var NAME : SORT;`
abbrev pub var : List ℕ → Sort → Local
var bytes sort = record { linear = false; name = named bytes; sort = sort }

-- `proc NAME() -> () root { BODY }`
abbrev pub root : List ℕ → List Stmt → Proc
root bytes body = record { name = named bytes; params = []; outs = []; refines = None; locals = []; body = body }

-- `call NAME(ARGS) -> (RESULTS);`
abbrev pub call : List ℕ → List Expr → List Name → Stmt
call callee args results = stmt.Call (named callee) args results

-- ---- what is said of a program

-- it keeps all rules from E10 to E24
abbrev pub Passes : Program → Type 0
Passes program = refusal_by typing_rules program ≡ None

-- the first rule that it breaks has this code, item and statement
abbrev pub Refused : Program → ℕ → ℕ → ℕ → Type 0
Refused program code item statement = refusal_by typing_rules program ≡ Some (record { code = code; item = item; statement = statement })

-- the program with a flag keeps all rules
abbrev pub FlagPasses : Type 0
FlagPasses = Passes flag
