-- A program for traces, with this procedure:
--
--   civl 1; layers 1; permissions 1;
--   global cells : row(1, 8) layers 0 to 1;
--   global seen : word(8) layers 1 to 1;
--   init true;
--   action Put(val at : word(1), val n : word(8)) -> (val was : word(8)) choose (more : word(8) = 1:8) layers 0 to 0 atomic
--     gate (n != get(cells, at)) guard (more != 0:8) { cells := set(cells, at, (n + more)); was := get(cells, at); }
--   action Did(val at : word(1)) -> (val r : word(8)) choose () layers 1 to 1 atomic gate true guard true { }
--   proc P(val at : word(1)) -> (val r : word(8)) refines Did with () layer 1 {
--     var v : word(8);
--     0 while rank (v != 0:8) by v inv true {
--     1   if (v == 1:8) { 2 call Put(at, v) -> (r); 3 commit; } else { 4 v := (v - 1:8); }
--     5   intro seen := get(cells, at);
--     6   v := (v - 1:8);
--       }
--     7 assert (r != 3:8);
--   }
--   thread P(0:1);
use Rattle.std.specs.Prelude.{ℕ, Bool, List, [], ◌∷◌, codes}
use Rattle.civl_tree.specs.declared.expr.Expr.{Expr}
use Rattle.civl_tree.specs.declared.expr.Expr as expr
use Rattle.civl_tree.specs.declared.expr.Two.TheVariants.{Add, Sub, Eq, Ne}
use Rattle.civl_tree.specs.declared.expr.Sort.{Sort}
use Rattle.civl_tree.specs.declared.expr.Sort.TheVariants as sort
use Rattle.civl_tree.specs.declared.action.Mode.TheVariants.{Val}
use Rattle.civl_tree.specs.declared.program.Proc.{Proc}
use Rattle.civl_tree.specs.declared.program.Program.{Program}
use Rattle.civl_tree.specs.declared.stmt.Stmt.{Stmt}
use Rattle.civl_tree.specs.declared.stmt.Stmt as stmt
use Rattle.civl_firing.specs.examples.Written.{word, array, array_sort, named, name, lit, global, param, choice, local, update, action, refines, proc, thread, call, holding}
use Rattle.civl_meaning.specs.Layers.{program_at}
use Rattle.civl_conditions.specs.paths.Paths.{Course, Progress}
use Rattle.civl_traces.specs.Told.{course}

abbrev byte : Sort
byte = sort.Word 8

abbrev at : Expr
at = name (codes "at")

abbrev v : Expr
v = name (codes "v")

-- `get(cells, at)`
abbrev cell : Expr
cell = expr.Get (name (codes "cells")) at

-- `v := (v - 1:8);`
abbrev pub less : Stmt
less = stmt.Assign (named (codes "v")) (expr.Two Sub v (lit 1 8))

abbrev pub put : Stmt
put = call (codes "Put") (at ∷ v ∷ []) (named (codes "r") ∷ [])

abbrev pub choice_of_one : Stmt
choice_of_one = stmt.If (expr.Two Eq v (lit 1 8)) (put ∷ stmt.Commit ∷ []) (less ∷ [])

abbrev pub see : Stmt
see = stmt.Intro (named (codes "seen")) cell

abbrev pub loop : Stmt
loop = stmt.RankLoop (expr.Two Ne v (lit 0 8)) v expr.True (choice_of_one ∷ see ∷ less ∷ [])

abbrev pub last : Stmt
last = stmt.Assert (expr.Two Ne (name (codes "r")) (lit 3 8))

abbrev pub body : List Stmt
body = loop ∷ last ∷ []

abbrev pub procedure : Proc
procedure =
    proc (codes "P") (param Val (codes "at") (sort.Word 1) ∷ []) (param Val (codes "r") byte ∷ []) (refines (codes "Did") 1) (local (codes "v") byte ∷ []) body

abbrev pub program : Program
program = record {
  version = 1;
  layers = 1;
  permissions = 1;
  globals = global (codes "cells") (array_sort 1 8) 0 1 ∷ global (codes "seen") byte 1 1 ∷ [];
  init = expr.True;
  invariants = [];
  actions =
      action (codes "Put") (param Val (codes "at") (sort.Word 1) ∷ param Val (codes "n") byte ∷ []) (param Val (codes "was") byte ∷ [])
      (choice (codes "more") byte (lit 1 8) ∷ []) 0 0
      (expr.Two Ne (name (codes "n")) cell) (expr.Two Ne (name (codes "more")) (lit 0 8)) (
      update (codes "cells") (expr.Set (name (codes "cells")) at (expr.Two Add (name (codes "n")) (name (codes "more")))) ∷ update (codes "was") cell ∷ []
      )
      ∷ action (codes "Did") (param Val (codes "at") (sort.Word 1) ∷ []) (param Val (codes "r") byte ∷ []) [] 1 1 expr.True expr.True []
      ∷ [];
  procs = procedure ∷ [];
  threads = thread (codes "P") (lit 0 1 ∷ []) ∷ [];
}

-- the call with this number chooses this value
abbrev pub choosing : ℕ → ℕ → Course
choosing number more = course (program_at program 0) procedure (record { statement = number; choices = word 8 more ∷ [] } ∷ [])

-- the cells and seen; r and v; and `done` and whether a commit was passed twice. The parameter is 1
abbrev pub state : List ℕ × ℕ → ℕ × ℕ → Bool × Bool → Progress
state globals locals commits = record {
  store = holding (array 1 8 globals.0 ∷ word 8 globals.1 ∷ []);
  locals = word 1 1 ∷ word 8 locals.0 ∷ word 8 locals.1 ∷ [];
  done = commits.0;
  again = commits.1;
}
