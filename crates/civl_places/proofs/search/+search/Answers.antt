use Rattle.std.proofs.Common.{sym, ap, ◌∙◌, rules}
use Rattle.civl_places.specs.inner.Searched.{told}
use Rattle.civl_places.proofs.Searching.{ends_here, goes_on}
use Rattle.civl_places.proofs.search.+search.Goals as goal

pub search_stmts-returns-in-Found : goal.search_stmts-returns-in-Found
search_stmts-returns-in-Found t c =
    sym (ends_here c.as_slice-stmt-items.result.now c.loop-stmt.stmt-index c.stmt-item.result c.loop-stmt.left (told c.search_stmt.result) _ (search rules) (search rules) c.search_stmt.ensures (ap told c.in-Found.is))
    ∙ c.loop-stmt.invariant

pub search_stmts-loop-stmt-preserved : goal.search_stmts-loop-stmt-preserved
search_stmts-loop-stmt-preserved t c =
    sym (goes_on c.as_slice-stmt-items.result.now c.loop-stmt.stmt-index c.stmt-item.result c.loop-stmt.left _ (told c.search_stmt.result) (search rules) (search rules) c.search_stmt.ensures (ap told c.in-Left.is))
    ∙ c.loop-stmt.invariant
