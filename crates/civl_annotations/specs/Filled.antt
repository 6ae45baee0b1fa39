-- A program with annotations filled in. Expressions are found for its annotations in the order of the text; each annotation takes
-- the next. One that is `true` is a blank: what was found stands in its place. Any other stays, in front of what was found.
use Rattle.std.specs.Prelude.{Bool, true, false, if◌then◌else◌, List, [], ◌∷◌, ◌++◌, map, drop}
use Rattle.civl_tree.specs.declared.expr.Expr.{Expr, out-Expr}
use Rattle.civl_tree.specs.declared.expr.Expr as expr
use Rattle.civl_tree.specs.declared.expr.Expr.TheOpen as part
use Rattle.civl_tree.specs.declared.expr.Two.TheVariants.{And}
use Rattle.civl_tree.specs.declared.stmt.Stmt.{Stmt}
use Rattle.civl_tree.specs.declared.stmt.Stmt as stmt
use Rattle.civl_tree.specs.declared.stmt.Stmt.TheOpen as layer
use Rattle.civl_tree.specs.declared.stmt.Stmt.TheFolds.{fold-Stmt}
use Rattle.civl_tree.specs.declared.program.Invariant.{Invariant}
use Rattle.civl_tree.specs.declared.program.Proc.{Proc}
use Rattle.civl_tree.specs.declared.program.Program.{Program}

abbrev pub true_layer : part.Expr-F Expr → Bool
true_layer part.True = true
true_layer _ = false

-- the expression is `true`
abbrev pub is_blank : Expr → Bool
is_blank e = true_layer (out-Expr e)

-- what was found in the place of a blank, and nothing more where a blank was found; else both, the given one first
abbrev pub conjoined : Expr → Expr → Expr
conjoined given found = if is_blank given then found else (if is_blank found then given else expr.Two And given found)

-- an annotation with the first of what was found, where there is one
abbrev pub filled_expr : Expr → List Expr → Expr
filled_expr given [] = given
filled_expr given (found ∷ rest) = conjoined given found

-- what takes expressions from a list for its annotations: what is made of it, and what it leaves for those behind it
abbrev pub Filling : Type 0 → Type 0
Filling A = List Expr → A × List Expr

-- one behind the other, each with what those before it leave
abbrev pub fill_each : {A : Type 0} → List (Filling A) → Filling (List A)
fill_each [] found = ([], found)
fill_each (f ∷ fs) found = ((f found).0 ∷ (fill_each fs (f found).1).0, (fill_each fs (f found).1).1)

-- an annotation takes the first, where there is one
abbrev pub fill_expr : Expr → Filling Expr
fill_expr given found = (filled_expr given found, drop 1 found)

-- a statement that ends in statements, which take
abbrev pub fill_loop : (List Stmt → Stmt) → Filling (List Stmt) → Filling Stmt
fill_loop loop body found = (loop (body found).0, (body found).1)

-- a statement's own annotation takes one expression, and then those in it take theirs
abbrev pub fill_layer : layer.Stmt-F (Filling Stmt) → Filling Stmt
fill_layer (layer.YieldLoop test inv body) found = fill_loop (stmt.YieldLoop test (filled_expr inv found)) (fill_each body) (drop 1 found)
fill_layer (layer.RankLoop test rank inv body) found = fill_loop (stmt.RankLoop test rank (filled_expr inv found)) (fill_each body) (drop 1 found)
fill_layer (layer.Yield inv) found = (stmt.Yield (filled_expr inv found), drop 1 found)
fill_layer (layer.If test first second) found = fill_loop (stmt.If test (fill_each first found).0) (fill_each second) (fill_each first found).1
fill_layer (layer.While test body) found = fill_loop (stmt.While test) (fill_each body) found
fill_layer (layer.Assign target value) found = (stmt.Assign target value, found)
fill_layer (layer.Assert fact) found = (stmt.Assert fact, found)
fill_layer (layer.Call callee args results) found = (stmt.Call callee args results, found)
fill_layer layer.Commit found = (stmt.Commit, found)
fill_layer (layer.Intro target value) found = (stmt.Intro target value, found)
fill_layer (layer.Spawn callee args) found = (stmt.Spawn callee args, found)

abbrev pub fill_stmt : Stmt → Filling Stmt
fill_stmt = fold-Stmt (Filling Stmt) fill_layer

-- the same of statements
abbrev pub fill_stmts : List Stmt → Filling (List Stmt)
fill_stmts stmts = fill_each (map fill_stmt stmts)

-- of a procedure, by its body
abbrev pub fill_proc : Proc → Filling Proc
fill_proc proc found = (record proc { body = (fill_stmts proc.body found).0 }, (fill_stmts proc.body found).1)

-- of procedures, in their order
abbrev pub fill_procs : List Proc → Filling (List Proc)
fill_procs procs = fill_each (map fill_proc procs)

-- a program with what was found for its annotations, and with more invariants of steps behind its own
abbrev pub filled : Program → List Expr → List Invariant → Program
filled program found added = record program { invariants = program.invariants ++ added; procs = (fill_procs program.procs found).0 }
