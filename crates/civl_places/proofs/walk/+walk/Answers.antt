use Rattle.std.proofs.Common.{sym, ◌∙◌, arith, rules}
use Rattle.civl_tree.specs.SpellingStmt.{spell_stmt}
use Rattle.civl_places.proofs.Counts.{joined_rest}
use Rattle.civl_places.proofs.Walking.{ends_here, goes_on}
use Rattle.civl_places.proofs.walk.+walk.Goals as goal

pub walk_stmts-returns-in-Found : goal.walk_stmts-returns-in-Found
walk_stmts-returns-in-Found t c =
    sym (ends_here c.as_slice-stmt-items.result.now c.loop-stmt.stmt-index c.stmt-item.result _ _ _ _ (search rules) (search rules) c.walk_stmt.ensures c.in-Found.is)
    ∙ c.loop-stmt.invariant.starts

pub walk_stmts-loop-stmt-preserved : goal.walk_stmts-loop-stmt-preserved
walk_stmts-loop-stmt-preserved t c = record {
  tokens = omega (arith, c.stmt_count-at.ensures, joined_rest spell_stmt c.as_slice-stmt-items.result.now c.loop-stmt.stmt-index c.stmt-item.result (search rules) (search rules));
  starts = sym (goes_on c.as_slice-stmt-items.result.now c.loop-stmt.stmt-index c.stmt-item.result _ _ _ _ _ (search rules) (search rules) c.walk_stmt.ensures c.in-Left.is c.stmt_count-at.ensures)
      ∙ c.loop-stmt.invariant.starts;
}
