-- Procedures that are to raise a number by another, and do otherwise:
--
--     civl 1; layers 1; permissions 1;
--     global x : word(8) layers 0 to 1;
--     init true;
--     action Put(val n : word(8)) -> () choose () layers 0 to 0 atomic gate (n != 9:8) guard true { x := n; }
--     action Raise(val n : word(8)) -> () choose () layers 1 to 1 atomic gate true guard true { x := (x + n); }
--     proc Puts(val n : word(8)) -> () refines Raise with () layer 1 { 0 call Put(n) -> (); 1 commit; }
--     proc Forgets(val n : word(8)) -> () refines Raise with () layer 1 { 0 call Put(n) -> (); }
--     proc Repeats(val n : word(8)) -> () refines Raise with () layer 1 { 0 commit; 1 call Put(n) -> (); 2 commit; }
use Rattle.std.specs.Prelude.{ℕ, ◌≡◌, List, [], ◌∷◌, Option, None, Some, codes}
use Rattle.civl_tree.specs.declared.expr.Expr.{Expr}
use Rattle.civl_tree.specs.declared.expr.Expr as expr
use Rattle.civl_tree.specs.declared.expr.Two.TheVariants.{Add, Ne}
use Rattle.civl_tree.specs.declared.expr.Sort.{Sort}
use Rattle.civl_tree.specs.declared.expr.Sort.TheVariants as sort
use Rattle.civl_tree.specs.declared.action.Mode.TheVariants.{Val}
use Rattle.civl_tree.specs.declared.program.Proc.{Proc}
use Rattle.civl_tree.specs.declared.program.Program.{Program}
use Rattle.civl_tree.specs.declared.stmt.Stmt.{Stmt}
use Rattle.civl_tree.specs.declared.stmt.Stmt as stmt
use Rattle.civl_firing.specs.examples.Written.{word, name, lit, global, param, update, action, refines, proc, call}
use Rattle.civl_conditions.specs.declared.condition.Part.{Part}
use Rattle.civl_conditions.specs.declared.condition.Part.TheVariants.{Gate, Once, Stutter, Perform}
use Rattle.civl_conditions.specs.declared.condition.Condition.TheVariants.{Path}
use Rattle.civl_traces.specs.declared.walked.Changed.{Changed}
use Rattle.civl_losses.specs.declared.loss.Loss.{Loss}
use Rattle.civl_losses.specs.declared.loss.Loss.TheVariants.{FalseGate, CommitAgain, NoCommit, Changes, ActionGives}
use Rattle.civl_losses.specs.Losses.{loss}

abbrev byte : Sort
byte = sort.Word 8

abbrev x : Expr
x = name (codes "x")

abbrev n : Expr
n = name (codes "n")

abbrev put : Stmt
put = call (codes "Put") (n ∷ []) []

abbrev raises : List ℕ → List Stmt → Proc
raises bytes body = proc bytes (param Val (codes "n") byte ∷ []) [] (refines (codes "Raise") 1) [] body

abbrev pub puts : Proc
puts = raises (codes "Puts") (put ∷ stmt.Commit ∷ [])

abbrev pub forgets : Proc
forgets = raises (codes "Forgets") (put ∷ [])

abbrev pub repeats : Proc
repeats = raises (codes "Repeats") (stmt.Commit ∷ put ∷ stmt.Commit ∷ [])

abbrev pub raising : Program
raising = record {
  version = 1;
  layers = 1;
  permissions = 1;
  globals = global (codes "x") byte 0 1 ∷ [];
  init = expr.True;
  invariants = [];
  actions =
      action (codes "Put") (param Val (codes "n") byte ∷ []) [] [] 0 0 (expr.Two Ne n (lit 9 8)) expr.True (update (codes "x") n ∷ [])
      ∷ action (codes "Raise") (param Val (codes "n") byte ∷ []) [] [] 1 1 expr.True expr.True (update (codes "x") (expr.Two Add x n) ∷ [])
      ∷ [];
  procs = puts ∷ forgets ∷ repeats ∷ [];
  threads = [];
}

-- what is lost on the path from the entry of the procedure with this number, where x and n are these
abbrev lost : Part → ℕ → ℕ → ℕ → Option Loss
lost part q a b = loss raising (Path part 1 q 0) (word 8 a ∷ word 8 b ∷ [])

-- x
abbrev change : ℕ → ℕ → List Changed
change before after = record { place = 0; before = word 8 before; after = word 8 after } ∷ []

-- the gate of Put is false at 9, and at no other number
abbrev pub GateIsFalse : Type 0
GateIsFalse = (lost Gate 0 5 9 ≡ Some (FalseGate 0 (word 8 9 ∷ []))) × (lost Gate 0 5 3 ≡ None)

-- Raise makes 8 of 5, and Puts makes 3; where x is 0, they agree
abbrev pub ActionGivesMore : Type 0
ActionGivesMore = (lost Perform 0 5 3 ≡ Some (ActionGives (change 8 3) [])) × (lost Perform 0 0 3 ≡ None)

-- at the exit of Forgets no commit was passed, and yet x is changed, unless it was 3
abbrev pub CommitIsForgotten : Type 0
CommitIsForgotten =
    (lost Once 1 5 3 ≡ Some NoCommit)
    × (lost Stutter 1 5 3 ≡ Some (Changes (change 5 3) []))
    × (lost Stutter 1 3 3 ≡ None)

-- the second commit of Repeats is statement 2
abbrev pub CommitIsRepeated : Type 0
CommitIsRepeated = (lost Once 2 5 3 ≡ Some (CommitAgain 2)) × (lost Once 0 5 3 ≡ None)
