-- E51 and E52: what a statement is that may not stand where it does.
use Rattle.std.specs.Prelude.{if◌then◌else◌, Option, None, Some}
use Rattle.std.specs.Option.{option_map}
use Rattle.civl_tree.specs.declared.stmt.Stmt.{Stmt, out-Stmt}
use Rattle.civl_tree.specs.declared.stmt.Stmt.TheOpen.{Stmt-F, While, YieldLoop, RankLoop, Yield, Commit, Intro, Spawn}
use Rattle.civl_tree.specs.declared.program.Proc.{Proc}
use Rattle.civl_yields.specs.Places.{is_layered}
use Rattle.civl_subjects.specs.Subjects.{Subject, OfLayered, OfRoot}
use Rattle.civl_subjects.specs.declared.subject.StatementKind.{StatementKind}
use Rattle.civl_subjects.specs.declared.subject.StatementKind.TheVariants as kind

-- ---- E51

-- a yield, or a loop of any form
abbrev pub form_pauses : Stmt-F Stmt → Option StatementKind
form_pauses (While test body) = Some kind.Loop
form_pauses (YieldLoop test inv body) = Some kind.YieldLoop
form_pauses (RankLoop test rank inv body) = Some kind.RankLoop
form_pauses (Yield inv) = Some kind.Yield
form_pauses _ = None

abbrev pub stmt_pauses : Stmt → Option StatementKind
stmt_pauses stmt = form_pauses (out-Stmt stmt)

-- ---- E52

-- a statement that may stand in a root alone
abbrev pub form_of_root : Stmt-F Stmt → Option StatementKind
form_of_root (While test body) = Some kind.Loop
form_of_root (Spawn callee args) = Some kind.Spawn
form_of_root _ = None

-- a statement that may stand in a procedure alone which refines an action
abbrev pub form_of_layered : Stmt-F Stmt → Option StatementKind
form_of_layered (YieldLoop test inv body) = Some kind.YieldLoop
form_of_layered (RankLoop test rank inv body) = Some kind.RankLoop
form_of_layered (Yield inv) = Some kind.Yield
form_of_layered Commit = Some kind.Commit
form_of_layered (Intro target value) = Some kind.Intro
form_of_layered _ = None

-- one of the others' statements
abbrev pub stmt_misplaced : Proc → Stmt → Option Subject
stmt_misplaced proc stmt =
    if is_layered proc then option_map OfLayered (form_of_root (out-Stmt stmt)) else option_map OfRoot (form_of_layered (out-Stmt stmt))
