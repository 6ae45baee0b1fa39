-- E12, Count: a count over its limit, or a header number out of its range. A count over its limit is a fault of the one
-- item with which it passes the limit.
use Rattle.std.specs.Prelude.{ℕ, ◌+◌, Bool, not, ◌&&◌, ◌||◌, nat_eq, nat_lt, nat_le, List, map, sum, take, length, Option, None, Some}
use Rattle.civl_tree.specs.declared.stmt.Stmt.{Stmt}
use Rattle.civl_tree.specs.declared.stmt.Stmt.TheOpen.{Stmt-F, If, While, YieldLoop, RankLoop, Yield}
use Rattle.civl_tree.specs.declared.stmt.Stmt.TheFolds.{fold-Stmt}
use Rattle.civl_tree.specs.declared.action.Action.{Action}
use Rattle.civl_tree.specs.declared.program.Refines.{Refines}
use Rattle.civl_tree.specs.declared.program.Proc.{Proc}
use Rattle.civl_tree.specs.declared.program.Program.{Program}

-- ---- the limits

abbrev pub layer_limit : ℕ
layer_limit = 8

abbrev pub permission_limit : ℕ
permission_limit = 5

abbrev pub global_limit : ℕ
global_limit = 64

abbrev pub invariant_limit : ℕ
invariant_limit = 64

abbrev pub action_limit : ℕ
action_limit = 128

abbrev pub proc_limit : ℕ
proc_limit = 64

abbrev pub thread_limit : ℕ
thread_limit = 64

-- parameters, outputs and locals of one procedure; parameters, outputs and choices of one action
abbrev pub name_limit : ℕ
name_limit = 32

-- cut points of all procedures together
abbrev pub cut_limit : ℕ
cut_limit = 256

-- ---- the rule

abbrev pub is_within : ℕ → ℕ → ℕ → Bool
is_within least most number = nat_le least number && nat_le number most

-- a number of the header is out of its range
abbrev pub header_count : Program → Bool
header_count program =
    not (is_within 1 2 program.version) || (not (is_within 1 layer_limit program.layers) || not (is_within 1 permission_limit program.permissions))

-- the declaration at this place among those of its kind is the first one past their limit
abbrev pub passes_limit : ℕ → ℕ → Bool
passes_limit limit place = nat_eq place limit

-- a sum is over its limit with the next summand, and isn't without it
abbrev pub first_over : ℕ → ℕ → ℕ → Bool
first_over limit before after = nat_le before limit && nat_lt limit after

abbrev pub action_count : ℕ → Action → Bool
action_count place action = passes_limit action_limit place || nat_lt name_limit (length action.params + length action.outs + length action.choices)

-- ---- cut points: the entry of a procedure that refines an action, its yields, its yield loops and its rank loops

-- a statement by its form, with the counts of those in it
abbrev pub cut_step : Stmt-F ℕ → ℕ
cut_step (If test first second) = sum first + sum second
cut_step (While test body) = sum body
cut_step (YieldLoop test inv body) = 1 + sum body
cut_step (RankLoop test rank inv body) = 1 + sum body
cut_step (Yield inv) = 1
cut_step _ = 0

-- the cut points in these statements
abbrev pub cuts_in : List Stmt → ℕ
cuts_in stmts = sum (map (fold-Stmt ℕ cut_step) stmts)

-- a root has no cut points
abbrev pub cuts_under : Option Refines → List Stmt → ℕ
cuts_under None body = 0
cuts_under (Some refines) body = 1 + cuts_in body

abbrev pub cuts_of : Proc → ℕ
cuts_of proc = cuts_under proc.refines proc.body

-- the cut points of the procedures before this place
abbrev pub cuts_before : Program → ℕ → ℕ
cuts_before program place = sum (map cuts_of (take place program.procs))

abbrev pub proc_count : Program → ℕ → Proc → Bool
proc_count program place proc =
    passes_limit proc_limit place
    || (nat_lt name_limit (length proc.params + length proc.outs + length proc.locals)
    || first_over cut_limit (cuts_before program place) (cuts_before program place + cuts_of proc))
