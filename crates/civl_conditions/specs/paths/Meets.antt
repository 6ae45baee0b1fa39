-- What the paths from a cut meet, by the numbers of statements; and how one walk over the text finds it.
use Rattle.std.specs.Prelude.{ℕ, ◌+◌, ◌≡◌, Bool, true, false, ◌||◌, nat_eq, nat_lt, if◌then◌else◌, List, [], ◌∷◌, ◌++◌, map, Option, None, Some}
use Rattle.std.specs.Option.{option_map_or}
use Rattle.civl_tree.specs.declared.stmt.Stmt.{Stmt}
use Rattle.civl_tree.specs.declared.stmt.Stmt.TheOpen as stmt
use Rattle.civl_tree.specs.declared.stmt.Stmt.TheFolds.{para-Stmt}
use Rattle.civl_tree.specs.declared.program.Proc.{Proc}
use Rattle.civl_tree.specs.Numbering.{size_of, sizes_of, statement_at}
use Rattle.civl_layers.specs.declared.cut.Cut.{Cut}
use Rattle.civl_layers.specs.declared.cut.CutKind.{CutKind}
use Rattle.civl_layers.specs.declared.cut.CutKind.TheVariants as kind
use Rattle.civl_conditions.specs.declared.paths.met.Met.{Met}
use Rattle.civl_conditions.specs.paths.Flows.{Flow}

abbrev pub numbers_met : Flow → Met
numbers_met f = record { passed = map (λ q. q.0) f.passed; ends = f.ends; onward = f.onward }

-- the statements of the body with the numbers that are passed are those that some path passes
abbrev pub ArePassed : Proc → Flow → Met → Type 0
ArePassed proc f met = map (statement_at proc.body) met.passed ≡ map (λ q. Some q.1) f.passed

-- ---- the walk

-- the statement from which the paths begin, or none where they begin before all statements
abbrev pub from_kind : ℕ → CutKind → Option ℕ
from_kind number kind.Entry = None
from_kind number kind.Yield = Some number
from_kind number kind.YieldLoop = Some number
from_kind number kind.RankLoop = Some number

abbrev pub from_cut : Cut → Option ℕ
from_cut cut = from_kind cut.statement cut.kind

abbrev pub is_from : Option ℕ → ℕ → Bool
is_from from number = option_map_or (λ n. nat_eq n number) from false

abbrev pub nothing_met : Bool → Met
nothing_met onward = record { passed = []; ends = []; onward = onward }

abbrev pub with_onward : Bool → Met → Met
with_onward onward met = record { passed = met.passed; ends = met.ends; onward = onward }

-- paths that come to the statement with this number pass it
abbrev pub met_passing : ℕ → Met → Met
met_passing number met = if met.onward then record { passed = met.passed ++ number ∷ []; ends = met.ends; onward = true } else met

-- they end before it
abbrev pub met_ending : ℕ → Met → Met
met_ending number met = if met.onward then record { passed = met.passed; ends = met.ends ++ number ∷ []; onward = false } else met

-- at the head of a loop: paths that begin there pass it, and others end
abbrev pub met_entering : Option ℕ → ℕ → Met → Met
met_entering from number met = if is_from from number then met_passing number (with_onward true met) else met_ending number met

-- behind the statement from which the paths begin they go on
abbrev pub met_behind : Option ℕ → ℕ → Met → Met
met_behind from number met = if is_from from number then with_onward true met else met

-- behind all statements, where the paths begin at none of them they go on: a place that isn't below this number is the exit
abbrev pub met_past : Option ℕ → ℕ → Met → Met
met_past from end met = if option_map_or (λ n. nat_lt n end) from true then met else with_onward true met

-- by the one branch or by the other, from where the paths stand
abbrev pub met_either : Bool → Met → (Met → Met) → Met
met_either onward first second = with_onward (first.onward || (second (with_onward onward first)).onward) (second (with_onward onward first))

-- walking over a statement that has this number
abbrev pub Walk : Type 0
Walk = ℕ → Met → Met

abbrev pub walked_in : List (Stmt × Walk) → List Stmt
walked_in ps = map (λ p. p.0) ps

abbrev pub walk_in : Option ℕ → List (Stmt × Walk) → Walk
walk_in from [] at met = met
walk_in from (q ∷ qs) at met = walk_in from qs (at + size_of q.0) (met_behind from at (q.1 at met))

abbrev pub walk_step : Option ℕ → stmt.Stmt-F (Stmt × Walk) → Walk
walk_step from (stmt.If e a b) at met =
    met_either (met_passing at met).onward (walk_in from a (at + 1) (met_passing at met)) (walk_in from b (at + 1 + sizes_of (walked_in a)))
walk_step from (stmt.While e a) at met = with_onward false (walk_in from a (at + 1) (with_onward false met))
walk_step from (stmt.YieldLoop e i a) at met = met_ending at (walk_in from a (at + 1) (met_entering from at met))
walk_step from (stmt.RankLoop e r i a) at met = met_ending at (walk_in from a (at + 1) (met_entering from at met))
walk_step from (stmt.Yield i) at met = met_ending at met
walk_step from (stmt.Spawn f es) at met = with_onward false met
walk_step from _ at met = met_passing at met

unfoldable pub walk : Option ℕ → Stmt → Walk
walk from = para-Stmt Walk (walk_step from)

-- over statements, the first of which has this number
unfoldable pub walk_all : Option ℕ → List Stmt → Walk
unfolding walk
walk_all from [] at met = met
walk_all from (s ∷ ss) at met = walk_all from ss (at + size_of s) (met_behind from at (walk from s at met))
