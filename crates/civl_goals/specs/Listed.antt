-- The goals of an outline, in their order.
use Rattle.std.specs.Prelude.{ℕ, Bool, true, false, ◌&&◌, ◌||◌, nat_eq, nat_lt, is_some, if◌then◌else◌, List, [], ◌∷◌, ◌++◌, map}
use Rattle.std.specs.List.{list_any}
use Rattle.std.specs.Option.{option_map_or}
use Rattle.civl_tree.specs.declared.name.Name.{Name}
use Rattle.civl_tree.specs.declared.stmt.Stmt.{Stmt, out-Stmt}
use Rattle.civl_tree.specs.declared.stmt.Stmt.TheOpen.{Stmt-F, Assert, Call, Spawn}
use Rattle.civl_tree.specs.declared.action.Action.{Action}
use Rattle.civl_tree.specs.declared.program.Thread.{Thread}
use Rattle.civl_tree.specs.declared.program.Proc.{Proc}
use Rattle.civl_tree.specs.declared.program.Program.{Program}
use Rattle.civl_tree.specs.Numbering.{sizes_of, statements_of}
use Rattle.civl_tree.specs.rules.Names.{has_name, proc_named, targets_of}
use Rattle.civl_tree.specs.rules.Width.{is_linear}
use Rattle.civl_outlines.specs.declared.outline.Outline.{Outline}
use Rattle.civl_linear.specs.Modes.{is_given}
use Rattle.civl_conditions.specs.Steps.{each_at}
use Rattle.civl_goals.specs.declared.goal.Goal.{Goal}
use Rattle.civl_goals.specs.declared.goal.Goal.TheVariants as goal
use Rattle.civl_goals.specs.Outlines.{written_before}

-- ---- beginnings

abbrev pub has_statement : Proc → Bool
has_statement proc = nat_lt 0 (sizes_of proc.body)

-- the name is that of a procedure with a statement
abbrev pub begins : Program → Name → Bool
begins program name = option_map_or has_statement (proc_named program name) false

abbrev pub thread_goal : Program → ℕ → Thread → List Goal
thread_goal program i thread = if begins program thread.callee then goal.Thread i ∷ [] else []

abbrev pub thread_goals : Program → List Goal
thread_goals program = each_at (thread_goal program) 0 program.threads

-- ---- actions of the top layer

-- a linear parameter, an output that is given, or an update of a linear global
abbrev pub moves_permissions : Program → Action → Bool
moves_permissions program a =
    list_any (λ p. is_linear p.mode) a.params
    || (list_any (λ p. is_given p.mode) a.outs || list_any (λ g. g.linear && has_name (targets_of a) g.name) program.globals)

-- its first layer is the top one, and it does so
abbrev pub linear_goal : Program → ℕ → Action → List Goal
linear_goal program x a = if nat_eq a.first program.layers && moves_permissions program a then goal.Linear x ∷ [] else []

abbrev pub linear_goals : Program → List Goal
linear_goals program = each_at (linear_goal program) 0 program.actions

-- ---- the statements of roots

abbrev pub is_root : Proc → Bool
is_root proc = option_map_or (λ r. false) proc.refines true

-- the statements of roots before which a note is written: the numbers of a root and of a statement
abbrev pub noted_at : Program → Outline → ℕ → ℕ → Stmt → List (ℕ × ℕ)
noted_at program outline q t stmt = if is_some (written_before program outline q t) then (q, t) ∷ [] else []

abbrev pub noted_in : Program → Outline → ℕ → Proc → List (ℕ × ℕ)
noted_in program outline q proc = each_at (noted_at program outline q) 0 (statements_of proc.body)

abbrev pub noted_of : Program → Outline → ℕ → Proc → List (ℕ × ℕ)
noted_of program outline q proc = if is_root proc then noted_in program outline q proc else []

abbrev pub noted : Program → Outline → List (ℕ × ℕ)
noted program outline = each_at (noted_of program outline) 0 program.procs

-- these are the numbers of other statements with a note
abbrev pub form_goals : Program → List (ℕ × ℕ) → ℕ → ℕ → Stmt-F Stmt → List Goal
form_goals program others r s (Call callee args results) = goal.Safe r s ∷ goal.Keep r s ∷ goal.Next r s ∷ map (λ q. goal.Other r s q.0 q.1) others
form_goals program others r s (Assert fact) = goal.Safe r s ∷ goal.Next r s ∷ []
form_goals program others r s (Spawn callee args) = (if begins program callee then goal.Spawn r s ∷ [] else []) ++ goal.Next r s ∷ []
form_goals program others r s _ = goal.Next r s ∷ []

abbrev pub stmt_goals : Program → List (ℕ × ℕ) → ℕ → ℕ → Stmt → List Goal
stmt_goals program others r s stmt = form_goals program others r s (out-Stmt stmt)

abbrev pub root_goals : Program → List (ℕ × ℕ) → ℕ → Proc → List Goal
root_goals program others r proc = each_at (stmt_goals program others r) 0 (statements_of proc.body)

abbrev pub proc_goals : Program → List (ℕ × ℕ) → ℕ → Proc → List Goal
proc_goals program others r proc = if is_root proc then root_goals program others r proc else []

abbrev pub statement_goals : Program → Outline → List Goal
statement_goals program outline = each_at (proc_goals program (noted program outline)) 0 program.procs

-- ---- all

unfoldable pub goals : Program → Outline → List Goal
goals program outline = goal.Invariant ∷ thread_goals program ++ (linear_goals program ++ statement_goals program outline)
