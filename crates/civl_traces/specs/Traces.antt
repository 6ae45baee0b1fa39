-- A path told statement by statement: those that it passes, in their order, with the states before and behind each, and what
-- it comes to. (A trace of a program: Hoare, Communicating sequential processes, 1985; a counterexample as an execution from
-- its initial values: Clarke, Grumberg, McMillan, Zhao, DAC 1995.)
use Rattle.std.specs.Prelude.{ℕ, ◌+◌, Bool, if◌then◌else◌, Option, None, Some, List, [], ◌∷◌, ◌++◌, map, drop}
use Rattle.civl_tree.specs.declared.expr.Expr.{Expr}
use Rattle.civl_tree.specs.declared.stmt.Stmt.{Stmt, out-Stmt}
use Rattle.civl_tree.specs.declared.stmt.Stmt.TheOpen as stmt
use Rattle.civl_tree.specs.declared.stmt.Stmt.TheFolds.{para-Stmt}
use Rattle.civl_tree.specs.Numbering.{size_of, sizes_of, numbered, exit_number}
use Rattle.civl_meaning.specs.Rest.{Rest, rest_at}
use Rattle.civl_layers.specs.declared.cut.Cut.{Cut}
use Rattle.civl_layers.specs.declared.cut.CutKind.{CutKind}
use Rattle.civl_layers.specs.declared.cut.CutKind.TheVariants as kind
use Rattle.civl_conditions.specs.paths.Paths.{Course, Progress, Outcome, Past, Comes, Fails, Stops, tested, pass}

-- a statement that a path passes: its number; whether its condition was true, where it is an `if` or a loop; and the states
-- before it and behind it, which are the same where it has a condition
pub record Passed : Type 0 where
  pub statement : ℕ
  pub took : Option Bool
  pub before : Progress
  pub behind : Progress

-- a path: what it passes, what it comes to, and the number of the statement before which it ends, or that of the exit
pub record Trace : Type 0 where
  pub passed : List Passed
  pub outcome : Outcome
  pub at : ℕ

-- nothing more is passed
abbrev pub ends_at : ℕ → Outcome → Trace
ends_at number outcome = record { passed = []; outcome = outcome; at = number }

-- a statement is passed, and then the rest
abbrev pub then_told : Passed → Trace → Trace
then_told first rest = record { passed = first ∷ rest.passed; outcome = rest.outcome; at = rest.at }

-- a statement without a condition, from one state to another
abbrev pub moved : ℕ → Progress → Progress → Passed
moved number before behind = record { statement = number; took = None; before = before; behind = behind }

-- an `if`, or the head of a loop, whose condition has this truth
abbrev pub decided : ℕ → Bool → Progress → Passed
decided number truth p = record { statement = number; took = Some truth; before = p; behind = p }

-- what is told from a state on
abbrev pub Onward : Type 0
Onward = Progress → Trace

-- the statement with this number, by what going over it comes to; what comes behind it is told from there on
abbrev pub told_by : ℕ → Progress → Outcome → Onward → Trace
told_by number p (Past behind) onward = then_told (moved number p behind) (onward behind)
told_by number p (Comes n behind) onward = ends_at number (Comes n behind)
told_by number p (Fails behind) onward = ends_at number (Fails behind)
told_by number p (Stops behind) onward = ends_at number (Stops behind)

-- telling a statement that has this number, and then what comes behind it
abbrev pub Telling : Type 0
Telling = Stmt → ℕ → Onward → Progress → Trace

abbrev pub stmts_told : List (Stmt × Telling) → List Stmt
stmts_told ts = map (λ t. t.0) ts

-- telling statements, the first of which has this number
abbrev pub told_in : List (Stmt × Telling) → ℕ → Onward → Progress → Trace
told_in [] at onward p = onward p
told_in (t ∷ ts) at onward p = t.1 t.0 at (told_in ts (at + size_of t.0) onward) p

-- an `if` is passed by its condition, and then the branch is told; each other statement is passed at once
abbrev pub tell_step : Course → stmt.Stmt-F (Stmt × Telling) → Telling
tell_step c (stmt.If e a b) s at onward p =
    then_told (decided at (tested c e p) p)
    (if tested c e p then told_in a (at + 1) onward p else told_in b (at + 1 + sizes_of (stmts_told a)) onward p)
tell_step c _ s at onward p = told_by at p (pass c s at p) onward

unfoldable pub tell : Course → Stmt → Telling
tell c = para-Stmt Telling (tell_step c)

-- telling statements with their numbers, and then what comes behind them
unfoldable pub tell_all : Course → Rest → Onward → Progress → Trace
unfolding tell
tell_all c [] onward p = onward p
tell_all c (q ∷ qs) onward p = tell c q.1 q.1 q.0 (tell_all c qs onward) p

-- past all statements is the exit
abbrev pub exits : Course → Onward
exits c p = ends_at (exit_number c.proc.body) (Past p)

-- from the head of a loop, which is passed first: its body and the loop again, or what is behind it
abbrev pub tell_loop : Course → Expr → List Stmt → Rest → Onward → Progress → Trace
tell_loop c e a [] onward p = onward p
tell_loop c e a (q ∷ qs) onward p =
    then_told (decided q.0 (tested c e p) p)
    (if tested c e p then tell_all c (numbered (q.0 + 1) a ++ q ∷ qs) onward p else tell_all c qs onward p)

-- from a statement that is a cut, which is the first of these
unfoldable pub tell_layer : Course → stmt.Stmt-F Stmt → Rest → Onward → Progress → Trace
tell_layer c (stmt.YieldLoop e i a) rest onward p = tell_loop c e a rest onward p
tell_layer c (stmt.RankLoop e r i a) rest onward p = tell_loop c e a rest onward p
tell_layer c _ rest onward p = tell_all c (drop 1 rest) onward p

abbrev pub tell_rest : Course → Rest → Onward → Progress → Trace
tell_rest c [] onward p = onward p
tell_rest c (q ∷ qs) onward p = tell_layer c (out-Stmt q.1) (q ∷ qs) onward p

abbrev pub tell_kind : Course → ℕ → CutKind → Onward → Progress → Trace
tell_kind c number kind.Entry onward p = tell_all c (numbered 0 c.proc.body) onward p
tell_kind c number kind.Yield onward p = tell_rest c (rest_at c.proc.body number) onward p
tell_kind c number kind.YieldLoop onward p = tell_rest c (rest_at c.proc.body number) onward p
tell_kind c number kind.RankLoop onward p = tell_rest c (rest_at c.proc.body number) onward p

-- the path from a cut
unfoldable pub trace_from : Course → Cut → Progress → Trace
trace_from c cut p = tell_kind c cut.statement cut.kind (exits c) p
