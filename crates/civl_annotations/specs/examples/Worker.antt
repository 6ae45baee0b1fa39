-- A worker with two yields, a yield loop and an `if` in its body:
--
--   0  yield a;
--   1  while yield b inv true {
--   2    if c {
--   3      yield true;
--        } else {
--   4      while rank b by x inv c {
--   5        x := x; } } }
use Rattle.std.specs.Prelude.{◌≡◌, List, [], ◌∷◌, map, codes}
use Rattle.civl_tree.specs.declared.expr.Expr.{Expr}
use Rattle.civl_tree.specs.declared.expr.Expr as expr
use Rattle.civl_tree.specs.declared.expr.Two.TheVariants.{And}
use Rattle.civl_tree.specs.declared.stmt.Stmt.{Stmt}
use Rattle.civl_tree.specs.declared.stmt.Stmt as stmt
use Rattle.civl_firing.specs.examples.Written.{named, name}
use Rattle.civl_annotations.specs.Bare.{bare_stmt}
use Rattle.civl_annotations.specs.Filled.{fill_stmts}

abbrev a : Expr
a = name (codes "a")

abbrev b : Expr
b = name (codes "b")

abbrev c : Expr
c = name (codes "c")

abbrev d : Expr
d = name (codes "d")

abbrev x : Expr
x = name (codes "x")

-- the body with these annotations
abbrev worker : Expr → Expr → Expr → Expr → List Stmt
worker first loop inner rank =
    stmt.Yield first
    ∷ stmt.YieldLoop b loop (
    stmt.If c (stmt.Yield inner ∷ []) (stmt.RankLoop b x rank (stmt.Assign (named (codes "x")) x ∷ []) ∷ [])
    ∷ []
    )
    ∷ []

-- without annotations: conditions and the rank stay
abbrev pub WorkerIsBare : Type 0
WorkerIsBare = map bare_stmt (worker a expr.True expr.True c) ≡ worker expr.True expr.True expr.True expr.True

-- with four expressions found for it, of which one is `true`; a fifth is left
abbrev pub WorkerIsFilled : Type 0
WorkerIsFilled =
    fill_stmts (worker a expr.True expr.True c) (d ∷ b ∷ a ∷ expr.True ∷ x ∷ [])
    ≡ (worker (expr.Two And a d) b a c, x ∷ [])

-- with one alone: the others stay
abbrev pub WorkerIsBegun : Type 0
WorkerIsBegun = fill_stmts (worker expr.True expr.True a c) (d ∷ []) ≡ (worker d expr.True a c, [])
