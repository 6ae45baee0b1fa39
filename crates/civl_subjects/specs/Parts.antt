-- The parts of a program: the item with a number, the parts of an expression, and the first of several about which
-- something is told.
use Rattle.std.specs.Prelude.{ℕ, zero, suc, ◌-◌, Bool, List, [], ◌∷◌, ◌++◌, length, Option, None, Some, slice_get}
use Rattle.std.specs.List.{find}
use Rattle.std.specs.Option.{option_or, option_map}
use Rattle.civl_tree.specs.declared.expr.Expr.{Expr}
use Rattle.civl_tree.specs.declared.expr.Expr.TheOpen as expr
use Rattle.civl_tree.specs.declared.expr.Expr.TheFolds.{para-Expr}
use Rattle.civl_tree.specs.declared.action.Action.{Action}
use Rattle.civl_tree.specs.declared.program.Global.{Global}
use Rattle.civl_tree.specs.declared.program.Invariant.{Invariant}
use Rattle.civl_tree.specs.declared.program.Proc.{Proc}
use Rattle.civl_tree.specs.declared.program.Thread.{Thread}
use Rattle.civl_tree.specs.declared.program.Program.{Program}

-- ---- the item with a number

-- an item, with its place among those of its kind
pub data Part : Type 0 where
  GlobalPart : ℕ → Global → Part
  InitPart : Part
  InvariantPart : ℕ → Invariant → Part
  ActionPart : ℕ → Action → Part
  ProcPart : ℕ → Proc → Part
  ThreadPart : ℕ → Thread → Part

-- the part with this number, counted from the threads on; from the procedures on; and so on up to the globals
abbrev pub from_threads : Program → ℕ → Option Part
from_threads program number = option_map (ThreadPart number) (slice_get program.threads number)

abbrev pub from_procs : Program → ℕ → Option Part
from_procs program number =
    option_or (option_map (ProcPart number) (slice_get program.procs number)) (from_threads program (number - length program.procs))

abbrev pub from_actions : Program → ℕ → Option Part
from_actions program number =
    option_or (option_map (ActionPart number) (slice_get program.actions number)) (from_procs program (number - length program.actions))

abbrev pub from_invariants : Program → ℕ → Option Part
from_invariants program number =
    option_or (option_map (InvariantPart number) (slice_get program.invariants number))
    (from_actions program (number - length program.invariants))

abbrev pub from_init : Program → ℕ → Option Part
from_init program zero = Some InitPart
from_init program (suc number) = from_invariants program number

-- the item with this number
abbrev pub part_at : Program → ℕ → Option Part
part_at program item =
    option_or (option_map (GlobalPart item) (slice_get program.globals item)) (from_init program (item - length program.globals))

-- ---- the first that is told

-- the first of these about which something is told
abbrev pub first_told : {A B : Type 0} → (A → Option B) → List A → Option B
first_told tell [] = None
first_told tell (item ∷ items) = option_or (tell item) (first_told tell items)

-- ---- the parts of an expression

-- an expression and the parts in it
abbrev pub with_parts : Expr × List Expr → List Expr
with_parts part = part.0 ∷ part.1

-- the parts in an expression, where each part stands with those in it
abbrev pub inner_step : expr.Expr-F (Expr × List Expr) → List Expr
inner_step (expr.One op part) = with_parts part
inner_step (expr.Two op first second) = with_parts first ++ with_parts second
inner_step (expr.Pick test first second) = with_parts test ++ (with_parts first ++ with_parts second)
inner_step (expr.Get row at) = with_parts row ++ with_parts at
inner_step (expr.Set row at cell) = with_parts row ++ (with_parts at ++ with_parts cell)
inner_step (expr.Fill index cell) = with_parts cell
inner_step (expr.Slice word high low) = with_parts word
inner_step (expr.Widen word wider) = with_parts word
inner_step (expr.Join first second) = with_parts first ++ with_parts second
inner_step _ = []

-- the parts in an expression, in text order, each before those in it
abbrev pub inner_parts : Expr → List Expr
inner_parts = para-Expr (List Expr) inner_step

-- an expression and the parts in it
abbrev pub parts_of : Expr → List Expr
parts_of expr = expr ∷ inner_parts expr

-- the first part of an expression that passes a test
unfoldable pub first_part : (Expr → Bool) → Expr → Option Expr
first_part test expr = find test (parts_of expr)
