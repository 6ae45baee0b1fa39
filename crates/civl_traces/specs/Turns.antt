-- A path as a chain of turns: each takes the first of what is still to run, and passes it or ends before it. (Small steps:
-- Plotkin, A structural approach to operational semantics, 1981.)
use Rattle.std.specs.Prelude.{ℕ, ◌+◌, ◌≡◌, if◌then◌else◌, List, [], ◌∷◌, ◌++◌, drop}
use Rattle.civl_tree.specs.declared.expr.Expr.{Expr}
use Rattle.civl_tree.specs.declared.stmt.Stmt.{Stmt, out-Stmt}
use Rattle.civl_tree.specs.declared.stmt.Stmt.TheOpen as stmt
use Rattle.civl_tree.specs.Numbering.{sizes_of, numbered, exit_number}
use Rattle.civl_meaning.specs.Rest.{Rest, rest_at}
use Rattle.civl_layers.specs.declared.cut.Cut.{Cut}
use Rattle.civl_layers.specs.declared.cut.CutKind.{CutKind}
use Rattle.civl_layers.specs.declared.cut.CutKind.TheVariants as kind
use Rattle.civl_conditions.specs.paths.Paths.{Course, Progress, Outcome, Past, Comes, Fails, Stops, tested, pass}
use Rattle.civl_traces.specs.Traces.{Passed, moved, decided, trace_from}

-- the path ends before the statement with this number, or at the exit; or a statement is passed, and this is then to run
pub data Turn : Type 0 where
  Ends : ℕ → Outcome → Turn
  Passes : Passed → Rest → Turn

-- by what going over the statement with this number comes to
abbrev pub turn_by : ℕ → Progress → Rest → Outcome → Turn
turn_by number p rest (Past behind) = Passes (moved number p behind) rest
turn_by number p rest (Comes n behind) = Ends number (Comes n behind)
turn_by number p rest (Fails behind) = Ends number (Fails behind)
turn_by number p rest (Stops behind) = Ends number (Stops behind)

-- behind an `if` one of its branches is to run, and then what comes behind it
abbrev pub turn_layer : Course → stmt.Stmt-F Stmt → Stmt → ℕ → Rest → Progress → Turn
turn_layer c (stmt.If e a b) s number rest p =
    Passes (decided number (tested c e p) p) ((if tested c e p then numbered (number + 1) a else numbered (number + 1 + sizes_of a) b) ++ rest)
turn_layer c _ s number rest p = turn_by number p rest (pass c s number p)

abbrev pub turn : Course → Rest → Progress → Turn
turn c [] p = Ends (exit_number c.proc.body) (Past p)
turn c (q ∷ rest) p = turn_layer c (out-Stmt q.1) q.1 q.0 rest p

-- ---- the first turn

-- the head of a loop, behind which its body and the loop again are to run, or what is behind it
abbrev pub loop_turn : Course → Expr → List Stmt → Rest → Progress → Turn
loop_turn c e a [] p = turn c [] p
loop_turn c e a (q ∷ rest) p = Passes (decided q.0 (tested c e p) p) (if tested c e p then numbered (q.0 + 1) a ++ q ∷ rest else rest)

unfoldable pub cut_turn : Course → stmt.Stmt-F Stmt → Rest → Progress → Turn
cut_turn c (stmt.YieldLoop e i a) rest p = loop_turn c e a rest p
cut_turn c (stmt.RankLoop e r i a) rest p = loop_turn c e a rest p
cut_turn c _ rest p = turn c (drop 1 rest) p

abbrev pub rest_turn : Course → Rest → Progress → Turn
rest_turn c [] p = turn c [] p
rest_turn c (q ∷ rest) p = cut_turn c (out-Stmt q.1) (q ∷ rest) p

abbrev pub first_turn : Course → ℕ → CutKind → Progress → Turn
first_turn c number kind.Entry p = turn c (numbered 0 c.proc.body) p
first_turn c number kind.Yield p = rest_turn c (rest_at c.proc.body number) p
first_turn c number kind.YieldLoop p = rest_turn c (rest_at c.proc.body number) p
first_turn c number kind.RankLoop p = rest_turn c (rest_at c.proc.body number) p

-- ---- the chain

-- from this turn on these statements are passed, and then the path ends so
abbrev pub Follows : Course → Turn → List Passed → ℕ → Outcome → Type 0
Follows c first [] at outcome = first ≡ Ends at outcome
Follows c first (q ∷ qs) at outcome = (rest : Rest) × (first ≡ Passes q rest) × Follows c (turn c rest q.behind) qs at outcome

-- a trace is the chain of the path's turns
abbrev pub TracesAreChains : Type 0
TracesAreChains =
    (c : Course) (cut : Cut) (p : Progress) →
    Follows c (first_turn c cut.statement cut.kind p) (trace_from c cut p).passed (trace_from c cut p).at (trace_from c cut p).outcome
