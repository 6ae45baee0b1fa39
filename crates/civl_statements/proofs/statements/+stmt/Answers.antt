use Rattle.std.proofs.Common.{◌+◌, ◌-◌, ◌∙◌, length, sym, arith}
use Rattle.std.proofs.lemmas.List.{length-map}
use Rattle.std.proofs.lemmas.Result.{err_from_is_err_and}
use Rattle.civl_lex.specs.Spelled.{spelled, spelled_token}
use Rattle.civl_phrases.specs.List.{repeated}
use Rattle.civl_statements.specs.readers.Stmts.{stmt_next, inner_stmt}
use Rattle.civl_phrases.proofs.Repeated.{loop_is}
use Rattle.civl_statements.proofs.OfStmts.{inner_stmt_at}
use Rattle.civl_statements.proofs.statements.+stmt.Goals as goal

pub inner_of-returns-in_err-stmt : goal.inner_of-returns-in_err-stmt
inner_of-returns-in_err-stmt t c =
    let p = err_from_is_err_and c.from_residual.result c.from_residual.ensures.1 in
    rw (p.1, p.2, inner_stmt_at c.args.new c.args.most c.requires) c.in_err-stmt.ensures

pub inner_of-returns : goal.inner_of-returns
inner_of-returns t c = rw (inner_stmt_at c.args.new c.args.most c.requires) c.in_ok-stmt.ensures

pub stmts-items-init : goal.stmts-items-init
stmts-items-init t c = rw c.new-items.ensures ((loop_is (stmt_next c.args.new) (inner_stmt c.args.new c.args.most)).from_none (length c.args.tokens.now + 1 - 0) (spelled c.args.tokens.now) (omega (arith, length-map c.args.tokens.now spelled_token)))

pub stmts-items-preserved : goal.stmts-items-preserved
stmts-items-preserved t c =
    rw c.in_ok-push.ensures.ok ((loop_is (stmt_next c.args.new) (inner_stmt c.args.new c.args.most)).goes_on (length c.args.tokens.now + 1 - c.items.counter) (length c.args.tokens.now + 1 - (c.items.counter + 1)) c.items.items
    (spelled c.items.left.tokens.now) (spelled c.in_ok-item.next.tokens.now) c.in_ok-item.item (repeated (stmt_next c.args.new) (inner_stmt c.args.new c.args.most) (spelled c.args.tokens.now))
    (omega arith) (sym c.is_stmt_next.ensures ∙ c.if-not-is_stmt_next.false) c.in_ok-item.ensures c.items.invariant)

pub stmts-returns-then-not-is_stmt_next : goal.stmts-returns-then-not-is_stmt_next
stmts-returns-then-not-is_stmt_next t c =
    (loop_is (stmt_next c.args.new) (inner_stmt c.args.new c.args.most)).ends (length c.args.tokens.now + 1 - c.items.counter) c.items.items (spelled c.items.left.tokens.now) (repeated (stmt_next c.args.new) (inner_stmt c.args.new c.args.most) (spelled c.args.tokens.now))
    (omega arith) (sym c.is_stmt_next.ensures ∙ c.if-not-is_stmt_next.true) c.items.invariant

pub stmts-returns-in_err-item : goal.stmts-returns-in_err-item
stmts-returns-in_err-item t c =
    let p = err_from_is_err_and c.from_residual.result c.from_residual.ensures.1 in
    rw (p.1, p.2) ((loop_is (stmt_next c.args.new) (inner_stmt c.args.new c.args.most)).fails (length c.args.tokens.now + 1 - c.items.counter) c.in_err-item.field-0.0 c.items.items (spelled c.items.left.tokens.now) (repeated (stmt_next c.args.new) (inner_stmt c.args.new c.args.most) (spelled c.args.tokens.now))
    (omega arith) (sym c.is_stmt_next.ensures ∙ c.if-not-is_stmt_next.false) c.in_err-item.ensures c.items.invariant)

pub stmts-returns : goal.stmts-returns
stmts-returns t c =
    let total = (loop_is (stmt_next c.args.new) (inner_stmt c.args.new c.args.most)).spent (length c.args.tokens.now + 1 - c.items.counter) c.items.items (spelled c.items.left.tokens.now) (repeated (stmt_next c.args.new) (inner_stmt c.args.new c.args.most) (spelled c.args.tokens.now)) (omega arith) c.items.invariant in
    rw c.not_here.ensures (rw (length-map c.items.left.tokens.now spelled_token) at total)
