-- Which statements the paths from a cut pass, and where they end, whatever the values: a path here is one choice of branches
-- (the paths of a control flow graph).
use Rattle.std.specs.Prelude.{ℕ, ◌+◌, Bool, true, false, ◌||◌, if◌then◌else◌, List, [], ◌∷◌, ◌++◌, map, drop}
use Rattle.civl_tree.specs.declared.program.Proc.{Proc}
use Rattle.civl_tree.specs.declared.stmt.Stmt.{Stmt, out-Stmt}
use Rattle.civl_tree.specs.declared.stmt.Stmt.TheOpen as stmt
use Rattle.civl_tree.specs.declared.stmt.Stmt.TheFolds.{para-Stmt}
use Rattle.civl_tree.specs.Numbering.{numbered, size_of, sizes_of}
use Rattle.civl_meaning.specs.Rest.{Rest, rest_at}
use Rattle.civl_layers.specs.declared.cut.Cut.{Cut}
use Rattle.civl_layers.specs.declared.cut.CutKind.{CutKind}
use Rattle.civl_layers.specs.declared.cut.CutKind.TheVariants as kind

-- the statements that some path passes, with their numbers; the numbers of the cuts' statements at which some path ends; and
-- whether some path goes on
pub record Flow : Type 0 where
  pub passed : List (ℕ × Stmt)
  pub ends : List ℕ
  pub onward : Bool

abbrev pub onward_flow : List (ℕ × Stmt) → Flow
onward_flow passed = record { passed = passed; ends = []; onward = true }

abbrev pub ended_flow : List ℕ → Flow
ended_flow ends = record { passed = []; ends = ends; onward = false }

-- one behind the other
abbrev pub flow_then : Flow → Flow → Flow
flow_then a b = if a.onward then record { passed = a.passed ++ b.passed; ends = a.ends ++ b.ends; onward = b.onward } else a

-- the one or the other
abbrev pub flow_or : Flow → Flow → Flow
flow_or a b = record { passed = a.passed ++ b.passed; ends = a.ends ++ b.ends; onward = a.onward || b.onward }

-- with a statement that is passed before
abbrev pub flow_with : ℕ × Stmt → Flow → Flow
flow_with q a = record { passed = q ∷ a.passed; ends = a.ends; onward = a.onward }

-- a statement and its number
abbrev pub Flowing : Type 0
Flowing = Stmt → ℕ → Flow

abbrev pub stmts_in : List (Stmt × Flowing) → List Stmt
stmts_in ps = map (λ p. p.0) ps

abbrev pub flows_in : List (Stmt × Flowing) → ℕ → Flow
flows_in [] at = onward_flow []
flows_in (q ∷ qs) at = flow_then (q.1 q.0 at) (flows_in qs (at + size_of q.0))

abbrev pub flow_step : stmt.Stmt-F (Stmt × Flowing) → Flowing
flow_step (stmt.If e a b) s at = flow_with (at, s) (flow_or (flows_in a (at + 1)) (flows_in b (at + 1 + sizes_of (stmts_in a))))
flow_step (stmt.While e a) s at = ended_flow []
flow_step (stmt.YieldLoop e i a) s at = ended_flow (at ∷ [])
flow_step (stmt.RankLoop e r i a) s at = ended_flow (at ∷ [])
flow_step (stmt.Yield i) s at = ended_flow (at ∷ [])
flow_step (stmt.Spawn f es) s at = ended_flow []
flow_step _ s at = onward_flow ((at, s) ∷ [])

unfoldable pub flow : Stmt → Flowing
flow = para-Stmt Flowing flow_step

unfoldable pub flow_all : Rest → Flow
unfolding flow
flow_all [] = onward_flow []
flow_all (q ∷ qs) = flow_then (flow q.1 q.1 q.0) (flow_all qs)

abbrev pub flow_loop : List Stmt → Rest → Flow
flow_loop a [] = onward_flow []
flow_loop a (q ∷ qs) = flow_with q (flow_or (flow_all (numbered (q.0 + 1) a ++ q ∷ qs)) (flow_all qs))

unfoldable pub flow_layer : stmt.Stmt-F Stmt → Rest → Flow
flow_layer (stmt.YieldLoop e i a) rest = flow_loop a rest
flow_layer (stmt.RankLoop e r i a) rest = flow_loop a rest
flow_layer _ rest = flow_all (drop 1 rest)

abbrev pub flow_rest : Rest → Flow
flow_rest [] = onward_flow []
flow_rest (q ∷ qs) = flow_layer (out-Stmt q.1) (q ∷ qs)

abbrev pub flow_kind : List Stmt → ℕ → CutKind → Flow
flow_kind body number kind.Entry = flow_all (numbered 0 body)
flow_kind body number kind.Yield = flow_rest (rest_at body number)
flow_kind body number kind.YieldLoop = flow_rest (rest_at body number)
flow_kind body number kind.RankLoop = flow_rest (rest_at body number)

-- from a cut
unfoldable pub flow_from : Proc → Cut → Flow
flow_from proc cut = flow_kind proc.body cut.statement cut.kind
