use Rattle.std.proofs.Common.{rules, ◌≡◌, ◌+◌, ◌≤◌, drop, ◌∙◌, List, length, sym, ap, arith}
use Rattle.civl_tree.specs.declared.stmt.Stmt.{Stmt}
use Rattle.civl_tree.specs.rules.Rules.{numbers_where, first_of}
use Rattle.civl_tree.specs.Numbering.{statements_of, inner_of}
use Rattle.civl_names.proofs.walks.Walking.{if_parts, while_parts, yield_loop_parts, rank_loop_parts, item_parts, found_here, found_inside, found_later, counted_later, none_left, numbers_none}
use Rattle.civl_names.proofs.walks.walk.+walk.Goals as goal

pub walk_all-returns-then-breaks : goal.walk_all-returns-then-breaks
walk_all-returns-then-breaks g t c =
    let breaks = g.T.Test.breaks c.args.test.now in
    ap first_of (sym c.loop-stmt.invariant.0)
    ∙ found_here breaks c.as_slice-stmt-items.result.now c.loop-stmt.stmt-index c.stmt-item.result c.loop-stmt-test.true c.stmt-item.is c.loop-stmt.here (sym c.if-breaks.ensures)

pub walk_all-returns-in-Broken : goal.walk_all-returns-in-Broken
walk_all-returns-in-Broken g t c =
    let breaks = g.T.Test.breaks c.args.test.now in
    ap first_of (sym c.loop-stmt.invariant.0)
    ∙ found_inside breaks c.as_slice-stmt-items.result.now c.loop-stmt.stmt-index c.stmt-item.result c.loop-stmt-test.true c.stmt-item.is c.loop-stmt.here c.in-Broken.found (sym c.if-breaks.ensures) c.in-Broken.ensures

pub walk_all-loop-stmt-preserved : goal.walk_all-loop-stmt-preserved
walk_all-loop-stmt-preserved g t c =
    let breaks = g.T.Test.breaks c.args.test.now in (
      found_later breaks c.as_slice-stmt-items.result.now c.loop-stmt.stmt-index c.stmt-item.result c.loop-stmt-test.true c.stmt-item.is c.loop-stmt.here c.in-Next.next (sym c.if-breaks.ensures) c.in-Next.ensures.0 c.in-Next.ensures.1
          ∙ c.loop-stmt.invariant.0,
      counted_later breaks c.as_slice-stmt-items.result.now c.loop-stmt.stmt-index c.stmt-item.result c.loop-stmt-test.true c.stmt-item.is c.loop-stmt.here c.in-Next.next c.in-Next.ensures.1
          ∙ c.loop-stmt.invariant.1,
      omega (arith, c.in-Next.ensures.1, c.loop-stmt.invariant.2),
    )

pub walk_all-returns : goal.walk_all-returns
walk_all-returns g t c =
    let breaks = g.T.Test.breaks c.args.test.now in
    let none = none_left c.as_slice-stmt-items.result.now c.loop-stmt.stmt-index c.loop-stmt-test.false in (
      sym c.loop-stmt.invariant.0 ∙ ap (λ (stmts : List Stmt). numbers_where breaks c.loop-stmt.here stmts) none ∙ numbers_none breaks c.loop-stmt.here,
      omega (arith, c.loop-stmt.invariant.1, ap (length {A = Stmt}) none),
    )

pub walk_all-walk_inside-requires : goal.walk_all-walk_inside-requires
walk_all-walk_inside-requires g t c κs within =
    let parts : length (inner_of c.stmt-item.result) + 1 + length (statements_of (drop (c.loop-stmt.stmt-index + 1) c.as_slice-stmt-items.result.now)) ≡ length (statements_of (drop c.loop-stmt.stmt-index c.as_slice-stmt-items.result.now)) =
    item_parts c.as_slice-stmt-items.result.now c.loop-stmt.stmt-index c.stmt-item.result c.loop-stmt-test.true c.stmt-item.is in
    let sum : c.loop-stmt.here + length (statements_of (drop c.loop-stmt.stmt-index c.as_slice-stmt-items.result.now)) ≡ c.args.number + length (statements_of c.args.stmts.now) = c.loop-stmt.invariant.1 in
    let low : c.args.number ≤ c.loop-stmt.here = c.loop-stmt.invariant.2 in
    search rules

pub walk_inside-walk_all-requires : goal.walk_inside-walk_all-requires
walk_inside-walk_all-requires g t c κs within =
    let parts : length (inner_of c.args.stmt.now) ≡ length (statements_of c.in-If.first) + length (statements_of c.in-If.second) = if_parts c.args.stmt.now c.in-If.field-0 c.in-If.first c.in-If.second c.in-If.is in
    search rules

pub walk_inside-walk_all-requires-in-Next : goal.walk_inside-walk_all-requires-in-Next
walk_inside-walk_all-requires-in-Next g t c κs within =
    let parts : length (inner_of c.args.stmt.now) ≡ length (statements_of c.in-If.first) + length (statements_of c.in-If.second) = if_parts c.args.stmt.now c.in-If.field-0 c.in-If.first c.in-If.second c.in-If.is in
    let next : c.in-Next.next ≡ c.args.number + length (statements_of c.in-If.first) = c.in-Next.ensures.1 in
    search rules

pub walk_inside-walk_all-requires-in-While : goal.walk_inside-walk_all-requires-in-While
walk_inside-walk_all-requires-in-While g t c κs within =
    let parts : length (inner_of c.args.stmt.now) ≡ length (statements_of c.in-While.body) = while_parts c.args.stmt.now c.in-While.field-0 c.in-While.body c.in-While.is in
    search rules

pub walk_inside-walk_all-requires-in-YieldLoop : goal.walk_inside-walk_all-requires-in-YieldLoop
walk_inside-walk_all-requires-in-YieldLoop g t c κs within =
    let parts : length (inner_of c.args.stmt.now) ≡ length (statements_of c.in-YieldLoop.body) = yield_loop_parts c.args.stmt.now c.in-YieldLoop.field-0 c.in-YieldLoop.field-1 c.in-YieldLoop.body c.in-YieldLoop.is in
    search rules

pub walk_inside-walk_all-requires-in-RankLoop : goal.walk_inside-walk_all-requires-in-RankLoop
walk_inside-walk_all-requires-in-RankLoop g t c κs within =
    let parts : length (inner_of c.args.stmt.now) ≡ length (statements_of c.in-RankLoop.body) = rank_loop_parts c.args.stmt.now c.in-RankLoop.field-0 c.in-RankLoop.field-1 c.in-RankLoop.field-2 c.in-RankLoop.body c.in-RankLoop.is in
    search rules
