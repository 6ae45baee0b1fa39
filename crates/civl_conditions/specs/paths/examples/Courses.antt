-- A program for paths, with this body. It keeps not all rules: `Took` gives its output no value (E23).
--
--   civl 1; layers 1; permissions 1;
--   global x : word(8) layers 0 to 1;
--   global seen : word(8) layers 1 to 1;
--   init true;
--   action Take(val n : word(8)) -> (val r : word(8)) choose () layers 0 to 0 atomic
--     gate (n != 0:8) guard (x == 0:8) { x := n; r := (n + 1:8); }
--   action Pick() -> (val r : word(8)) choose (c : word(8) = 0:8) layers 0 to 0 atomic gate true guard (c != 0:8) { r := c; }
--   action Took(val n : word(8)) -> (val r : word(8)) choose () layers 1 to 1 atomic gate true guard true { }
--   proc P(val n : word(8)) -> (val r : word(8)) refines Took with () layer 1 { var v : word(8); BODY }
--   thread P(1:8);
use Rattle.std.specs.Prelude.{ℕ, Bool, false, List, [], ◌∷◌, codes}
use Rattle.civl_bits.specs.declared.value.Value.{Value}
use Rattle.civl_tree.specs.declared.expr.Expr.{Expr}
use Rattle.civl_tree.specs.declared.expr.Expr as expr
use Rattle.civl_tree.specs.declared.expr.Two.TheVariants.{Add, Eq, Ne}
use Rattle.civl_tree.specs.declared.expr.Sort.{Sort}
use Rattle.civl_tree.specs.declared.expr.Sort.TheVariants as sort
use Rattle.civl_tree.specs.declared.action.Mode.TheVariants.{Val}
use Rattle.civl_tree.specs.declared.program.Proc.{Proc}
use Rattle.civl_tree.specs.declared.program.Program.{Program}
use Rattle.civl_tree.specs.declared.stmt.Stmt.{Stmt}
use Rattle.civl_tree.specs.declared.stmt.Stmt as stmt
use Rattle.civl_firing.specs.examples.Written.{word, named, name, lit, global, param, choice, local, update, action, refines, proc, thread, call, holding}
use Rattle.civl_layers.specs.declared.cut.Cut.{Cut}
use Rattle.civl_layers.specs.declared.cut.CutKind.{CutKind}
use Rattle.civl_meaning.specs.Layers.{program_at}
use Rattle.civl_conditions.specs.paths.Paths.{Course, Progress}

abbrev byte : Sort
byte = sort.Word 8

abbrev pub n : Expr
n = name (codes "n")

abbrev pub r : Expr
r = name (codes "r")

abbrev pub v : Expr
v = name (codes "v")

-- `e == number:8`
abbrev pub is : Expr → ℕ → Expr
is e number = expr.Two Eq e (lit number 8)

-- `r := e;` and `v := e;`
abbrev pub set_r : Expr → Stmt
set_r e = stmt.Assign (named (codes "r")) e

abbrev pub set_v : Expr → Stmt
set_v e = stmt.Assign (named (codes "v")) e

-- `call Take(n) -> (r);` and `call Pick() -> (v);`
abbrev pub take_n : Stmt
take_n = call (codes "Take") (n ∷ []) (named (codes "r") ∷ [])

abbrev pub pick_v : Stmt
pick_v = call (codes "Pick") [] (named (codes "v") ∷ [])

abbrev pub proc_with : List Stmt → Proc
proc_with body = proc (codes "P") (param Val (codes "n") byte ∷ []) (param Val (codes "r") byte ∷ []) (refines (codes "Took") 1) (local (codes "v") byte ∷ []) body

abbrev pub program_with : List Stmt → Program
program_with body = record {
  version = 1;
  layers = 1;
  permissions = 1;
  globals = global (codes "x") byte 0 1 ∷ global (codes "seen") byte 1 1 ∷ [];
  init = expr.True;
  invariants = [];
  actions =
      action (codes "Take") (param Val (codes "n") byte ∷ []) (param Val (codes "r") byte ∷ []) [] 0 0 (expr.Two Ne n (lit 0 8)) (is (name (codes "x")) 0) (
      update (codes "x") n ∷ update (codes "r") (expr.Two Add n (lit 1 8)) ∷ []
      )
      ∷ action (codes "Pick") [] (param Val (codes "r") byte ∷ []) (choice (codes "c") byte (lit 0 8) ∷ []) 0 0 expr.True (expr.Two Ne (name (codes "c")) (lit 0 8)) (
      update (codes "r") (name (codes "c")) ∷ []
      )
      ∷ action (codes "Took") (param Val (codes "n") byte ∷ []) (param Val (codes "r") byte ∷ []) [] 1 1 expr.True expr.True []
      ∷ [];
  procs = proc_with body ∷ [];
  threads = thread (codes "P") (lit 1 8 ∷ []) ∷ [];
}

-- with these values for the choices of each call, by its number
abbrev pub choosing : (ℕ → List Value) → List Stmt → Course
choosing chosen body = record { plain = program_at (program_with body) 0; proc = proc_with body; chosen = chosen }

abbrev pub course : List Stmt → Course
course body = choosing (λ number. []) body

abbrev pub cut : ℕ → CutKind → Cut
cut statement kind = record { statement = statement; kind = kind }

-- with x and seen; with n, r and v; and with `done` and whether a commit was passed twice
abbrev pub with : ℕ × ℕ → ℕ × ℕ × ℕ → Bool × Bool → Progress
with globals locals commits = record {
  store = holding (word 8 globals.0 ∷ word 8 globals.1 ∷ []);
  locals = word 8 locals.0 ∷ word 8 locals.1 ∷ word 8 locals.2 ∷ [];
  done = commits.0;
  again = commits.1;
}

-- the same before a commit
abbrev pub before : ℕ × ℕ → ℕ × ℕ × ℕ → Progress
before globals locals = with globals locals (false, false)
