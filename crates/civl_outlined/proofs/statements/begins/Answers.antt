use Rattle.civl_tree.specs.declared.stmt.Stmt.{the_lemmas as of_stmt}
use Rattle.civl_tree.specs.declared.stmt.Stmt.TheOpen as stmt
use Rattle.civl_goals.specs.Weights.{form_begins}
use Rattle.civl_outlined.proofs.Stating.{of_form}
use Rattle.civl_outlined.proofs.statements.begins.Goals as goal

pub returns-in-Spawn : goal.returns-in-Spawn
returns-in-Spawn c =
    of_form (form_begins c.args.said.now.program.now c.args.said.now.outline.now) c.args.stmt.now (stmt.Spawn c.in-Spawn.callee c.in-Spawn.field-1) (rw c.in-Spawn.is (simp of_stmt)) c.first_note.ensures
