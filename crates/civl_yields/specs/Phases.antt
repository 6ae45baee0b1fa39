-- The phase of a block before each statement of a layered procedure: right, or left, where the block may have passed its
-- turning point (Lipton 1975; Hawblitzel, Petrank, Qadeer, Tasiran, CAV 2015).
use Rattle.std.specs.Prelude.{Bool, true, false, ◌||◌, List, [], ◌∷◌, ◌++◌, map, Option, None, Some, if◌then◌else◌}
use Rattle.civl_tree.specs.declared.stmt.Stmt.{Stmt, out-Stmt}
use Rattle.civl_tree.specs.declared.stmt.Stmt.TheOpen.{Stmt-F, If, While, YieldLoop, RankLoop, Call, Yield}
use Rattle.civl_tree.specs.declared.stmt.Stmt.TheFolds.{fold-Stmt}
use Rattle.civl_tree.specs.declared.action.Action.{Action}
use Rattle.civl_tree.specs.declared.program.Refines.{Refines}
use Rattle.civl_tree.specs.declared.program.Proc.{Proc}
use Rattle.civl_tree.specs.declared.program.Program.{Program}
use Rattle.civl_tree.specs.Numbering.{statements_of}
use Rattle.civl_yields.specs.Movers.{called_action, turns}

-- going over statements, where a phase is whether the block may have passed its turning point: the phase behind them, and
-- the phase before each of them and before each statement in them, in text order
pub record Passed : Type 0 where
  pub after : Bool
  pub befores : List Bool

-- over statements in their order, from this phase on
abbrev pub pass_all : List (Bool → Passed) → Bool → Passed
pass_all [] left = record { after = left; befores = [] }
pass_all (statement ∷ statements) left =
    let here = statement left in
    let rest = pass_all statements here.after in
    record { after = rest.after; befores = here.befores ++ rest.befores }

-- over a statement with no others in it, behind which there is this phase
abbrev pub pass_one : Bool → Bool → Passed
pass_one left after = record { after = after; befores = left ∷ [] }

-- over an `if`: behind it the phase may be left where it may be left behind a branch
abbrev pub pass_if : Bool → Passed → Passed → Passed
pass_if left first second = record { after = first.after || second.after; befores = left ∷ first.befores ++ second.befores }

-- over a loop at whose head there is this phase, and from there through its body: what comes behind it begins at the head
abbrev pub pass_loop : Bool → Bool → Passed → Passed
pass_loop left head body = record { after = head; befores = left ∷ body.befores }

-- the phase at the head of a loop that doesn't yield: left where it may be left before the loop, or at the end of the body
-- that was entered right. That is the least phase which is so on each way to the head (see `HeadIsLeast`).
abbrev pub head_phase : List (Bool → Passed) → Bool → Bool
head_phase body left = left || (pass_all body false).after

-- the phase behind a call of this action, where there is one
abbrev pub called_phase : Option Action → Bool → Bool
called_phase None left = left
called_phase (Some action) left = left || turns action.mover

-- over a statement by its form, with what goes over its parts
abbrev pub pass_step : Program → Stmt-F (Bool → Passed) → Bool → Passed
pass_step program (If test first second) left = pass_if left (pass_all first left) (pass_all second left)
pass_step program (While test body) left = pass_loop left (head_phase body left) (pass_all body (head_phase body left))
pass_step program (YieldLoop test inv body) left = pass_loop left false (pass_all body false)
pass_step program (RankLoop test rank inv body) left = pass_loop left (head_phase body left) (pass_all body (head_phase body left))
pass_step program (Call callee args results) left = pass_one left (called_phase (called_action program callee) left)
pass_step program (Yield inv) left = pass_one left false
pass_step program _ left = pass_one left left

-- over a statement and those in it
abbrev pub passed : Program → Stmt → Bool → Passed
passed program = fold-Stmt (Bool → Passed) (pass_step program)

-- over statements and those in them
abbrev pub passed_all : Program → List Stmt → Bool → Passed
passed_all program stmts = pass_all (map (passed program) stmts)

-- the phase before each statement of a body, in text order: right at the entry
abbrev pub phases_before : Program → List Stmt → List Bool
phases_before program body = (passed_all program body false).befores

-- ---- the phases before calls

abbrev pub is_call_form : Stmt-F Stmt → Bool
is_call_form (Call callee args results) = true
is_call_form _ = false

abbrev pub is_call : Stmt → Bool
is_call stmt = is_call_form (out-Stmt stmt)

-- of these phases, each before one of these statements, those before a call
abbrev pub before_calls : List Stmt → List Bool → List Bool
before_calls [] phases = []
before_calls (stmt ∷ stmts) [] = []
before_calls (stmt ∷ stmts) (left ∷ phases) = (if is_call stmt then left ∷ [] else []) ++ before_calls stmts phases

-- a root has no phases
abbrev pub phases_under : Program → Option Refines → List Stmt → List Bool
phases_under program None body = []
phases_under program (Some refines) body = before_calls (statements_of body) (phases_before program body)

-- for each call statement of a procedure, in text order, whether the block may have passed its turning point before it
abbrev pub phases_of : Program → Proc → List Bool
phases_of program proc = phases_under program proc.refines proc.body
