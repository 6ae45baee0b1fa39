-- A program without its annotations, and programs that differ in annotations alone. Annotations are what a program says for its
-- proof and not for its runs: the expressions of `yield`, of yield loops and of loops with a rank, and the invariants of steps.
-- (Ghost code, which no run depends on: Filliâtre, Gondelman, Paskevich, The spirit of ghost code, CAV 2014.)
use Rattle.std.specs.Prelude.{◌≡◌, [], map}
use Rattle.civl_tree.specs.declared.expr.Expr as expr
use Rattle.civl_tree.specs.declared.stmt.Stmt.{Stmt, roll-Stmt}
use Rattle.civl_tree.specs.declared.stmt.Stmt.TheOpen.{Stmt-F, YieldLoop, RankLoop, Yield}
use Rattle.civl_tree.specs.declared.stmt.Stmt.TheFolds.{fold-Stmt}
use Rattle.civl_tree.specs.declared.program.Proc.{Proc}
use Rattle.civl_tree.specs.declared.program.Program.{Program}

-- a statement with `true` in the place of its annotation, where it has one
abbrev pub blank : Stmt-F Stmt → Stmt-F Stmt
blank (YieldLoop test inv body) = YieldLoop test expr.True body
blank (RankLoop test rank inv body) = RankLoop test rank expr.True body
blank (Yield inv) = Yield expr.True
blank layer = layer

-- the same of all statements in it too
abbrev pub bare_stmt : Stmt → Stmt
bare_stmt = fold-Stmt Stmt (λ layer. roll-Stmt (blank layer))

-- a procedure with `true` in the place of each annotation of its body
abbrev pub bare_proc : Proc → Proc
bare_proc proc = record proc { body = map bare_stmt proc.body }

-- a program with `true` in the place of each annotation, and with no invariants of steps
abbrev pub bare : Program → Program
bare program = record program { invariants = []; procs = map bare_proc program.procs }

-- without their annotations they are one program
abbrev pub DifferInAnnotations : Program → Program → Type 0
DifferInAnnotations one other = bare one ≡ bare other
