-- The frames of a thread that is in a call inside a call:
--
--   proc Inner(val n : word(8)) -> (val m : word(8)) root {
--     var b : bool;
--     0  while b { 1  m := n; 2  b := false; }
--     3  commit;
--   }
--   proc Outer(val n : word(8)) -> () root {
--     var b : bool;
--     0  if b { 1  call Inner(n) -> (n); 2  yield b; } else { 3  b := true; }
--     4  assert b;
--   }
--   thread Outer(7:8);
use Rattle.std.specs.Prelude.{ℕ, ◌≡◌, true, false, List, [], ◌∷◌, codes}
use Rattle.civl_tree.specs.declared.expr.Expr as expr
use Rattle.civl_tree.specs.declared.expr.Sort.{Sort}
use Rattle.civl_tree.specs.declared.expr.Sort.TheVariants as sort
use Rattle.civl_tree.specs.declared.action.Mode.TheVariants.{Val}
use Rattle.civl_tree.specs.declared.program.Program.{Program}
use Rattle.civl_tree.specs.declared.stmt.Stmt.{Stmt}
use Rattle.civl_tree.specs.declared.stmt.Stmt as stmt
use Rattle.civl_meaning.specs.declared.config.Activation.{Activation}
use Rattle.civl_meaning.specs.declared.config.Plain.{Plain}
use Rattle.civl_meaning.specs.declared.config.State.{State}
use Rattle.civl_meaning.specs.declared.config.State.TheVariants.{Before, Inside, After}
use Rattle.civl_meaning.specs.declared.config.Running.{Running}
use Rattle.civl_meaning.specs.Frame.{frames_of}
use Rattle.civl_meaning.specs.Layers.{lowest}
use Rattle.civl_firing.specs.examples.Written.{word, bool, named, name, lit, param, local, root, proc, thread, call}

abbrev byte : Sort
byte = sort.Word 8

abbrev copies : Stmt
copies = stmt.Assign (named (codes "m")) (name (codes "n"))

abbrev clears : Stmt
clears = stmt.Assign (named (codes "b")) expr.False

abbrev pub loops : Stmt
loops = stmt.While (name (codes "b")) (copies ∷ clears ∷ [])

abbrev calls : Stmt
calls = call (codes "Inner") (name (codes "n") ∷ []) (named (codes "n") ∷ [])

abbrev waits : Stmt
waits = stmt.Yield (name (codes "b"))

abbrev sets : Stmt
sets = stmt.Assign (named (codes "b")) expr.True

abbrev branches : Stmt
branches = stmt.If (name (codes "b")) (calls ∷ waits ∷ []) (sets ∷ [])

abbrev asserts : Stmt
asserts = stmt.Assert (name (codes "b"))

abbrev nested : Program
nested = record {
  version = 2;
  layers = 1;
  permissions = 1;
  globals = [];
  init = expr.True;
  invariants = [];
  actions = [];
  procs =
      proc (codes "Inner") (param Val (codes "n") byte ∷ []) (param Val (codes "m") byte ∷ []) root (local (codes "b") sort.Bool ∷ []) (loops ∷ stmt.Commit ∷ [])
      ∷ proc (codes "Outer") (param Val (codes "n") byte ∷ []) [] root (local (codes "b") sort.Bool ∷ []) (branches ∷ asserts ∷ [])
      ∷ [];
  threads = thread (codes "Outer") (lit 7 8 ∷ []) ∷ [];
}

abbrev plain : Plain
plain = lowest nested

abbrev started : State → Running
started state = record { callee = 1; args = word 8 7 ∷ []; state = state }

-- Outer at a place, with n = 7 and b
abbrev outer : ℕ → Activation
outer place = record { procedure = 1; place = place; locals = word 8 7 ∷ bool true ∷ [] }

-- Inner at a place, with n = 7, m = 0 and b
abbrev inner : ℕ → Activation
inner place = record { procedure = 0; place = place; locals = word 8 7 ∷ word 8 0 ∷ bool false ∷ [] }

abbrev first_call : List Stmt
first_call = call (codes "Outer") [] [] ∷ []

-- before its call the thread has this call before it
abbrev pub OneFrameBefore : Type 0
OneFrameBefore = frames_of plain (started Before) ≡ record { locals = word 8 7 ∷ []; rest = first_call } ∷ []

-- the call is still the first frame's; Outer waits in its call, and the yield, the assert come behind it; Inner is in the
-- loop's body, behind which the loop comes again, and then the commit
abbrev pub ThreeFrames : Type 0
ThreeFrames =
    frames_of plain (started (Inside (outer 1 ∷ []) (inner 2)))
    ≡ record { locals = word 8 7 ∷ []; rest = first_call }
    ∷ record { locals = word 8 7 ∷ bool true ∷ []; rest = calls ∷ waits ∷ asserts ∷ [] }
    ∷ record { locals = word 8 7 ∷ word 8 0 ∷ bool false ∷ []; rest = clears ∷ loops ∷ stmt.Commit ∷ [] }
    ∷ []

-- in the second branch, and at the exit
abbrev pub SecondBranchFrame : Type 0
SecondBranchFrame =
    frames_of plain (started (Inside [] (outer 3)))
    ≡ record { locals = word 8 7 ∷ []; rest = first_call } ∷ record { locals = word 8 7 ∷ bool true ∷ []; rest = sets ∷ asserts ∷ [] } ∷ []

abbrev pub ExitFrame : Type 0
ExitFrame =
    frames_of plain (started (Inside [] (outer 5)))
    ≡ record { locals = word 8 7 ∷ []; rest = first_call } ∷ record { locals = word 8 7 ∷ bool true ∷ []; rest = [] } ∷ []

-- after its call there is nothing
abbrev pub OneFrameAfter : Type 0
OneFrameAfter = frames_of plain (started After) ≡ record { locals = word 8 7 ∷ []; rest = [] } ∷ []
