use Rattle.std.proofs.Common.{◌≡◌, ◌+◌, ◌-◌, ◌*◌, length}
use Rattle.civl_lex.specs.Spelled.{spelled}
use Rattle.civl_phrases.specs.List.{repeated_by, repeated, front}
use Rattle.civl_statements.specs.readers.Stmts.{stmt_next, inner_stmt}
use Rattle.civl_statements.proofs.statements.+stmt.Given as goal

abbrev pub decreases-stmt : goal.decreases-stmt
decreases-stmt l = 8 * l.most + 7

abbrev pub decreases-if_stmt : goal.decreases-if_stmt
decreases-if_stmt l = 8 * l.most + 6

abbrev pub decreases-branches : goal.decreases-branches
decreases-branches l = 8 * l.most + 3

abbrev pub decreases-while_stmt : goal.decreases-while_stmt
decreases-while_stmt l = 8 * l.most + 6

abbrev pub decreases-plain_loop : goal.decreases-plain_loop
decreases-plain_loop l = 8 * l.most + 5

abbrev pub decreases-yield_loop : goal.decreases-yield_loop
decreases-yield_loop l = 8 * l.most + 5

abbrev pub decreases-rank_loop : goal.decreases-rank_loop
decreases-rank_loop l = 8 * l.most + 5

abbrev pub decreases-by_body : goal.decreases-by_body
decreases-by_body l = 8 * l.most + 4

abbrev pub decreases-inv_body : goal.decreases-inv_body
decreases-inv_body l = 8 * l.most + 3

abbrev pub decreases-block : goal.decreases-block
decreases-block l = 8 * l.most + 2

abbrev pub decreases-stmts : goal.decreases-stmts
decreases-stmts l = 8 * l.most + 1

abbrev pub decreases-inner_of : goal.decreases-inner_of
decreases-inner_of l = 8 * l.most

abbrev pub invariant-stmts-items : goal.invariant-stmts-items
invariant-stmts-items l = front l.items (repeated_by (stmt_next l.new) (inner_stmt l.new l.most) (length l.tokens + 1 - l.counter) (spelled l.left.tokens.now))
    ≡ repeated (stmt_next l.new) (inner_stmt l.new l.most) (spelled l.tokens)
