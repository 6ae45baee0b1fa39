use Rattle.std.proofs.Common.{arith, rules}
use Rattle.std.proofs.lemmas.Grind.{common_steps}
use Rattle.civl_tree.specs.SpellingStmt.{spell_stmt}
use Rattle.civl_printing.proofs.Writing.{written_rest, writing}
use Rattle.civl_printing.proofs.statements.+stmt.Goals as goal

pub put_stmts-loop-stmt-preserved : goal.put_stmts-loop-stmt-preserved
put_stmts-loop-stmt-preserved t c =
    let e = written_rest spell_stmt c.as_slice-stmt-items.result.now c.loop-stmt.stmt-index c.stmt-item.result (search rules) (search rules) in
    grind (arith, writing)

pub put_stmts-returns : goal.put_stmts-returns
put_stmts-returns t c = grind (arith, writing, common_steps)
