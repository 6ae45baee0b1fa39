-- The rules on yields and movers, E50 to E53, each with the places at which a program breaks it.
use Rattle.std.specs.Prelude.{ℕ, false, List, [], ◌∷◌, Option, None, Some}
use Rattle.civl_tree.specs.declared.program.Refines.{Refines}
use Rattle.civl_tree.specs.declared.program.Proc.{Proc}
use Rattle.civl_tree.specs.declared.program.Program.{Program}
use Rattle.civl_tree.specs.declared.stmt.Stmt.{Stmt}
use Rattle.civl_tree.specs.Numbering.{statements_of}
use Rattle.civl_tree.specs.rules.Codes.{E50, E51, E52, E53}
use Rattle.civl_tree.specs.rules.Rules.{Rule, asks_nothing, statements_where}
use Rattle.civl_names.specs.walks.Walks.{numbers_with}
use Rattle.civl_yields.specs.Phases.{phases_before}
use Rattle.civl_yields.specs.Places.{stmt_late, stmt_nested, insides_all, stmt_misplaced, stray, no_leave, action_stray, refines_stray, stmt_stray, any_stray}

-- E50: the numbers of a procedure's calls that come too late; a root has no phases
abbrev pub late_under : Program → Option Refines → List Stmt → List ℕ
late_under program None body = []
late_under program (Some refines) body = numbers_with (stmt_late program) 0 (statements_of body) (phases_before program body)

abbrev pub late_numbers : Program → Proc → List ℕ
late_numbers program proc = late_under program proc.refines proc.body

-- E51: the numbers of a procedure's yields and loops inside rank loops
abbrev pub nested_numbers : Proc → List ℕ
nested_numbers proc = numbers_with stmt_nested 0 (statements_of proc.body) (insides_all proc.body false)

-- E52: the numbers of a procedure's statements that may not stand in a procedure of its kind
abbrev pub misplaced_numbers : Proc → List ℕ
misplaced_numbers proc = statements_where (stmt_misplaced proc) proc

-- E53: the numbers of a procedure's statements with a stray `done` or `old`
abbrev pub stray_numbers : Proc → List ℕ
stray_numbers proc = statements_where (stmt_stray proc) proc

-- E50: calls that come too late
abbrev pub phase_rule : Rule
phase_rule = record (asks_nothing E50) { statements = λ program place proc. late_numbers program proc }

-- E51: yields and loops inside rank loops
abbrev pub rank_loop_rule : Rule
rank_loop_rule = record (asks_nothing E51) { statements = λ program place proc. nested_numbers proc }

-- E52: statements that may not stand in a procedure of its kind
abbrev pub commit_rule : Rule
commit_rule = record (asks_nothing E52) { statements = λ program place proc. misplaced_numbers proc }

-- E53: a stray `done` or `old`
abbrev pub done_rule : Rule
done_rule = record (asks_nothing E53) {
  init = λ program. stray no_leave program.init;
  invariant = λ program place invariant. stray no_leave invariant.expr;
  action = λ program place action. action_stray action;
  proc = λ program place proc. refines_stray proc.refines;
  statements = λ program place proc. stray_numbers proc;
  thread = λ program place thread. any_stray thread.args;
}

-- E50 to E53, in their order
abbrev pub yield_rules : List Rule
yield_rules = phase_rule ∷ rank_loop_rule ∷ commit_rule ∷ done_rule ∷ []
