-- Programs with a width or a literal out of range, and some in which it just is in range.
use Rattle.std.specs.Prelude.{ℕ, Bool, true, false, List, [], ◌∷◌, codes}
use Rattle.civl_tree.specs.declared.expr.Expr.{Expr}
use Rattle.civl_tree.specs.declared.expr.Expr as expr
use Rattle.civl_tree.specs.declared.expr.Two.TheVariants.{BitOr, Eq, Shl}
use Rattle.civl_tree.specs.declared.expr.Sort.{Sort}
use Rattle.civl_tree.specs.declared.expr.Sort.TheVariants.{Bool as Truth, Word, Row}
use Rattle.civl_tree.specs.declared.stmt.Stmt as stmt
use Rattle.civl_tree.specs.declared.action.Mode.{Mode}
use Rattle.civl_tree.specs.declared.action.Mode.TheVariants.{Val, Lend, Take, Give}
use Rattle.civl_tree.specs.declared.action.Param.{Param}
use Rattle.civl_tree.specs.declared.action.Choice.{Choice}
use Rattle.civl_tree.specs.declared.program.Program.{Program}
use Rattle.civl_tree.specs.examples.RulesFlag.{named, name, flag, flag_global, plain_global, update, plain_action, choice, root, call, bare, Passes, Refused}
use Rattle.civl_tree.specs.examples.RulesUnit.{with_init, with_invariant, with_gate, with_body, with_refined, with_thread, unit_thread}

-- the one global, of this sort
abbrev pub of_sort : Sort → Program
of_sort sort = record bare { globals = plain_global (codes "x") sort ∷ [] }

-- the one global, linear and of this sort, where permissions have so many bits
abbrev pub pool : ℕ → Sort → Program
pool permissions sort = record bare { permissions = permissions; globals = record (plain_global (codes "x") sort) { linear = true } ∷ [] }

-- the program with a flag, with a global of this sort in front
abbrev pub flag_behind : Sort → Program
flag_behind sort = record flag { globals = plain_global (codes "g") sort ∷ flag_global ∷ [] }

abbrev pub WidthsOfGlobals : Type 0
WidthsOfGlobals =
    Passes (flag_behind (Word 32))
    × Refused (flag_behind (Word 33)) 20 0 0
    × Passes (of_sort (Word 1))
    × Passes (of_sort (Word 32))
    × Refused (of_sort (Word 0)) 20 0 0
    × Refused (of_sort (Word 33)) 20 0 0
    × Passes (of_sort (Row 3 32))
    × Refused (of_sort (Row 3 0)) 20 0 0
    × Refused (of_sort (Row 3 33)) 20 0 0
    × Passes (pool 2 (Word 4))
    × Passes (pool 5 (Word 32))
    × Refused (pool 2 (Word 2)) 20 0 0
    × Refused (pool 2 (Word 8)) 20 0 0
    × Refused (pool 1 Truth) 20 0 0
    × Refused (pool 1 (Row 1 2)) 20 0 0

-- an action with these parameters, outputs and choices, whose outputs are updated, where permissions have 2 bits
abbrev pub act : List Param → List Param → List Choice → Program
act params outs choices = record bare {
  permissions = 2;
  actions = record (plain_action (codes "A") 0 (update (codes "o") (expr.Literal 0 2) ∷ [])) { params = params; outs = outs; choices = choices } ∷ [];
}

abbrev pub param : Mode → List ℕ → Sort → Param
param mode name sort = record { mode = mode; name = named name; sort = sort }

-- a root with this parameter and this local, where permissions have 2 bits
abbrev pub run : Mode → Sort → Bool → Sort → Program
run mode sort linear other = record bare {
  permissions = 2;
  procs = record (root (codes "R") []) { params = param mode (codes "p") sort ∷ []; locals = record { linear = linear; name = named (codes "v"); sort = other } ∷ [] } ∷ [];
}

-- a pool of permissions, to which an action gives back the one that it takes:
--
--     civl 1; layers 1; permissions 2;
--     global linear pool : word(4) layers 0 to 1;
--     init (pool == 0:4);
--     action Drop(take t : word(2)) -> () choose () layers 0 to 1 atomic gate true guard true
--       { pool := (pool | (1:4 << widen(t, 4))); }
--     proc Main(take t : word(2)) -> () root { call Drop(t) -> (); }
--     thread Main(1:2);
abbrev pub taking : Program
taking = record bare {
  permissions = 2;
  globals = record (plain_global (codes "pool") (Word 4)) { linear = true } ∷ [];
  init = expr.Two Eq (name (codes "pool")) (expr.Literal 0 4);
  actions = record (plain_action (codes "Drop") 0
      (update (codes "pool") (expr.Two BitOr (name (codes "pool")) (expr.Two Shl (expr.Literal 1 4) (expr.Widen (name (codes "t")) 4))) ∷ [])) {
        params = param Take (codes "t") (Word 2) ∷ [];
        last = 1;
      } ∷ [];
  procs = record (root (codes "Main") (call (codes "Drop") (name (codes "t") ∷ []) [] ∷ [])) { params = param Take (codes "t") (Word 2) ∷ [] } ∷ [];
  threads = record { callee = named (codes "Main"); args = expr.Literal 1 2 ∷ [] } ∷ [];
}

abbrev pub WidthsOfNames : Type 0
WidthsOfNames =
    Passes taking
    × Passes (act (param Lend (codes "p") (Word 2) ∷ param Take (codes "q") (Word 2) ∷ param Val (codes "r") Truth ∷ []) (param Give (codes "o") (Word 2) ∷ []) [])
    × Refused (act (param Lend (codes "p") (Word 1) ∷ []) (param Give (codes "o") (Word 2) ∷ []) []) 20 1 0
    × Refused (act (param Take (codes "p") Truth ∷ []) (param Give (codes "o") (Word 2) ∷ []) []) 20 1 0
    × Refused (act [] (param Give (codes "o") (Word 4) ∷ []) []) 20 1 0
    × Refused (act (param Val (codes "p") (Word 0) ∷ []) (param Val (codes "o") (Word 2) ∷ []) []) 20 1 0
    × Refused (act [] (param Val (codes "o") (Word 2) ∷ []) (choice (codes "c") (Word 33) expr.True ∷ [])) 20 1 0
    × Passes (run Take (Word 2) true (Word 2))
    × Passes (run Val (Word 7) false (Row 6 1))
    × Refused (run Take (Word 4) true (Word 2)) 20 1 0
    × Refused (run Take (Word 2) true (Word 4)) 20 1 0
    × Refused (run Val (Word 33) false Truth) 20 1 0
    × Refused (run Val Truth false (Row 2 0)) 20 1 0

-- an expression equals itself, in the condition of the second statement
abbrev pub equals_itself : Expr → Program
equals_itself value = with_body (stmt.Commit ∷ stmt.Assert (expr.Two Eq value value) ∷ [])

abbrev pub five : Expr
five = expr.Literal 5 8

-- the faults of sorts, E21, come after those of ranges
abbrev pub WidthsOfExpressions : Type 0
WidthsOfExpressions =
    Passes (equals_itself (expr.Literal 255 8))
    × Refused (equals_itself (expr.Literal 256 8)) 20 4 1
    × Refused (equals_itself (expr.Literal 2 1)) 20 4 1
    × Refused (equals_itself (expr.Literal 0 0)) 20 4 1
    × Refused (equals_itself (expr.Literal 0 33)) 20 4 1
    × Passes (equals_itself (expr.Literal 4294967295 32))
    × Passes (equals_itself (expr.Slice five 7 0))
    × Refused (equals_itself (expr.Slice five 8 0)) 20 4 1
    × Refused (equals_itself (expr.Slice five 2 3)) 20 4 1
    × Refused (equals_itself (expr.Slice expr.True 2 3)) 21 4 1
    × Passes (equals_itself (expr.Widen five 32))
    × Refused (equals_itself (expr.Widen five 7)) 20 4 1
    × Refused (equals_itself (expr.Widen five 33)) 20 4 1
    × Refused (equals_itself (expr.Widen (expr.Fill 1 five) 33)) 21 4 1
    × Passes (equals_itself (expr.Join five (expr.Literal 0 24)))
    × Refused (equals_itself (expr.Join five (expr.Literal 0 25))) 20 4 1
    × Refused (equals_itself (expr.Join five expr.True)) 21 4 1
    × Refused (equals_itself (expr.Widen (expr.Join five (expr.Literal 0 25)) 1)) 20 4 1
    × Refused (with_init (expr.Literal 2 1)) 20 1 0
    × Refused (with_invariant (expr.Literal 2 1)) 20 2 0
    × Refused (with_gate (expr.Literal 2 1)) 20 3 0
    × Refused (with_refined (codes "A") (expr.Literal 2 1 ∷ [])) 20 4 0
    × Refused (with_thread (unit_thread (expr.Literal 2 1 ∷ []))) 20 6 0
