-- A program with one of everything, which keeps all static rules, and words for edited copies of it:
--
--     civl 2; layers 1; permissions 1;
--     global g : bool layers 0 to 1;
--     init true;
--     invariant 1 true;
--     action A(val p : bool) -> (val o : bool) choose (c : bool = true) layers 0 to 0 atomic gate true guard true { o := true; }
--     proc Q(val a : bool) -> (val o : bool) refines A with (true) layer 1 { var v : bool; }
--     proc R() -> () root { }
--     thread R();
--
-- Its items are 0 the global, 1 `init`, 2 the invariant, 3 the action, 4 and 5 the procedures, 6 the thread.
use Rattle.std.specs.Prelude.{ℕ, List, [], ◌∷◌, Some, codes}
use Rattle.civl_tree.specs.declared.expr.Expr.{Expr}
use Rattle.civl_tree.specs.declared.expr.Expr as expr
use Rattle.civl_tree.specs.declared.expr.Sort.TheVariants as sort
use Rattle.civl_tree.specs.declared.stmt.Stmt.{Stmt}
use Rattle.civl_tree.specs.declared.action.Action.{Action}
use Rattle.civl_tree.specs.declared.program.Global.{Global}
use Rattle.civl_tree.specs.declared.program.Proc.{Proc}
use Rattle.civl_tree.specs.declared.program.Thread.{Thread}
use Rattle.civl_tree.specs.declared.program.Program.{Program}
use Rattle.civl_tree.specs.examples.RulesFlag.{named, plain_global, update, plain_action, val, choice, var, root, Passes}

abbrev pub unit_action : Action
unit_action = record (plain_action (codes "A") 0 (update (codes "o") expr.True ∷ [])) {
  params = val (codes "p") sort.Bool ∷ [];
  outs = val (codes "o") sort.Bool ∷ [];
  choices = choice (codes "c") sort.Bool expr.True ∷ [];
}

abbrev pub unit_proc : List Stmt → Proc
unit_proc body = record {
  name = named (codes "Q");
  params = val (codes "a") sort.Bool ∷ [];
  outs = val (codes "o") sort.Bool ∷ [];
  refines = Some (record { action = named (codes "A"); with = expr.True ∷ []; layer = 1 });
  locals = var (codes "v") sort.Bool ∷ [];
  body = body;
}

-- `thread R(ARGS);`
abbrev pub unit_thread : List Expr → Thread
unit_thread args = record { callee = named (codes "R"); args = args }

abbrev pub unit : Program
unit = record {
  version = 2;
  layers = 1;
  permissions = 1;
  globals = plain_global (codes "g") sort.Bool ∷ [];
  init = expr.True;
  invariants = record { step = 1; expr = expr.True } ∷ [];
  actions = unit_action ∷ [];
  procs = unit_proc [] ∷ root (codes "R") [] ∷ [];
  threads = unit_thread [] ∷ [];
}

-- ---- edited copies: another global, `init`, invariant, action, procedure or thread, or another body

abbrev pub with_global : Global → Program
with_global global = record unit { globals = global ∷ [] }

abbrev pub with_init : Expr → Program
with_init init = record unit { init = init }

abbrev pub with_invariant : Expr → Program
with_invariant expression = record unit { invariants = record { step = 1; expr = expression } ∷ [] }

abbrev pub with_action : Action → Program
with_action action = record unit { actions = action ∷ [] }

abbrev pub with_gate : Expr → Program
with_gate gate = with_action (record unit_action { gate = gate })

abbrev pub with_guard : Expr → Program
with_guard guard = with_action (record unit_action { guard = guard })

-- the one choice with this offer
abbrev pub with_offer : Expr → Program
with_offer offer = with_action (record unit_action { choices = choice (codes "c") sort.Bool offer ∷ [] })

-- the update of the output, and this one
abbrev pub with_update : List ℕ → Expr → Program
with_update target value = with_action (record unit_action { updates = update (codes "o") expr.True ∷ update target value ∷ [] })

abbrev pub with_proc : Proc → Program
with_proc proc = record unit { procs = proc ∷ root (codes "R") [] ∷ [] }

-- the procedure with this body
abbrev pub with_body : List Stmt → Program
with_body body = with_proc (unit_proc body)

-- the procedure as one that refines this action with these values
abbrev pub with_refined : List ℕ → List Expr → Program
with_refined action values = with_proc (record (unit_proc []) { refines = Some (record { action = named action; with = values; layer = 1 }) })

abbrev pub with_thread : Thread → Program
with_thread thread = record unit { threads = thread ∷ [] }

-- the program keeps all rules
abbrev pub UnitPasses : Type 0
UnitPasses = Passes unit
