-- A program with linear locals, and words for edited copies of it:
--
--     civl 2; layers 1; permissions 2;
--     init true;
--     action Take(take a : word(2)) -> () choose () layers 0 to 0 atomic gate true guard true { }
--     action Lend(lend a : word(2)) -> () choose () layers 0 to 0 atomic gate true guard true { }
--     action Two(lend a : word(2), take b : word(2)) -> () choose () layers 0 to 0 atomic gate true guard true { }
--     action Give() -> (give g : word(2)) choose () layers 0 to 0 atomic gate true guard true { g := 0:2; }
--     action Tell() -> (val g : word(2)) choose () layers 0 to 0 atomic gate true guard true { g := 0:2; }
--     proc P(take x : word(2), lend y : word(2)) -> (give o : word(2)) refines Give with () layer 1 {
--       linear z : word(2); var v : word(2); BODY }
--     proc U(take a : word(2)) -> () root { }
--
-- Its items are 0 `init`, 1 to 5 the actions, 6 and 7 the procedures. The numbers of P's names are 0 x, 1 y, 2 o, 3 z, 4 v.
use Rattle.std.specs.Prelude.{ℕ, ◌≡◌, true, false, List, [], ◌∷◌, Some, None, codes}
use Rattle.civl_tree.specs.declared.expr.Expr as expr
use Rattle.civl_tree.specs.declared.expr.Sort.TheVariants.{Word}
use Rattle.civl_tree.specs.declared.stmt.Stmt.{Stmt}
use Rattle.civl_tree.specs.declared.stmt.Stmt as stmt
use Rattle.civl_tree.specs.declared.action.Mode.{Mode}
use Rattle.civl_tree.specs.declared.action.Mode.TheVariants.{Val, Lend, Take, Give}
use Rattle.civl_tree.specs.declared.action.Param.{Param}
use Rattle.civl_tree.specs.declared.action.Action.{Action}
use Rattle.civl_tree.specs.declared.program.Proc.{Proc}
use Rattle.civl_tree.specs.declared.program.Program.{Program}
use Rattle.civl_tree.specs.examples.RulesFlag.{named, name, update, plain_action, root, call, bare}
use Rattle.civl_tree.specs.rules.Rules.{refusal_by}
use Rattle.civl_linear.specs.LinearRules.{linear_rules}
use Rattle.civl_linear.specs.Cuts.{held_of}

-- a parameter or an output of the permissions' width
abbrev pub param : Mode → List ℕ → Param
param mode bytes = record { mode = mode; name = named bytes; sort = Word 2 }

abbrev pub taking : List ℕ → List Param → Action
taking bytes params = record (plain_action bytes 0 []) { params = params }

abbrev pub giving : List ℕ → Mode → Action
giving bytes mode = record (plain_action bytes 0 (update (codes "g") (expr.Literal 0 2) ∷ [])) { outs = param mode (codes "g") ∷ [] }

abbrev pub proc_p : List Stmt → Proc
proc_p body = record {
  name = named (codes "P");
  params = param Take (codes "x") ∷ param Lend (codes "y") ∷ [];
  outs = param Give (codes "o") ∷ [];
  refines = Some (record { action = named (codes "Give"); with = []; layer = 1 });
  locals = record { linear = true; name = named (codes "z"); sort = Word 2 } ∷ record { linear = false; name = named (codes "v"); sort = Word 2 } ∷ [];
  body = body;
}

-- with this body of P
abbrev pub dock : List Stmt → Program
dock body = record bare {
  version = 2;
  permissions = 2;
  actions =
      taking (codes "Take") (param Take (codes "a") ∷ [])
      ∷ taking (codes "Lend") (param Lend (codes "a") ∷ [])
      ∷ taking (codes "Two") (param Lend (codes "a") ∷ param Take (codes "b") ∷ [])
      ∷ giving (codes "Give") Give
      ∷ giving (codes "Tell") Val
      ∷ [];
  procs = proc_p body ∷ record (root (codes "U") []) { params = param Take (codes "a") ∷ [] } ∷ [];
}

-- calls of the actions, and a spawn of U
abbrev pub takes : List ℕ → Stmt
takes arg = call (codes "Take") (name arg ∷ []) []

abbrev pub lends : List ℕ → Stmt
lends arg = call (codes "Lend") (name arg ∷ []) []

abbrev pub pairs : List ℕ → List ℕ → Stmt
pairs first second = call (codes "Two") (name first ∷ name second ∷ []) []

abbrev pub gives : List ℕ → Stmt
gives target = call (codes "Give") [] (named target ∷ [])

abbrev pub tells : List ℕ → Stmt
tells target = call (codes "Tell") [] (named target ∷ [])

abbrev pub spawns : List ℕ → Stmt
spawns arg = stmt.Spawn (named (codes "U")) (name arg ∷ [])

-- ---- what is said of a body

-- with it the program keeps the rules E40 to E43
abbrev pub Stands : List Stmt → Type 0
Stands body = refusal_by linear_rules (dock body) ≡ None

-- with it the first of these rules that the program breaks, in P, has this code and statement
abbrev pub Falls : List Stmt → ℕ → ℕ → Type 0
Falls body code statement = refusal_by linear_rules (dock body) ≡ Some (record { code = code; item = 6; statement = statement })

-- what P holds at its cuts
abbrev pub held : List Stmt → List (List ℕ)
held body = held_of (dock body) (proc_p body)
