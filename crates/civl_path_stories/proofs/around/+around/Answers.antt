use Rattle.std.proofs.Common.{◌∙◌, ◌+◌, ◌++◌, true, List, length, sym, ap, arith}
use Rattle.civl_tree.specs.declared.stmt.Stmt.{Stmt}
use Rattle.civl_tree.specs.Numbering.{statements_of, inner_of}
use Rattle.civl_names.proofs.walks.Walking.{counted_later, item_parts, none_left}
use Rattle.civl_path_stories.specs.declared.around.Around.{Around}
use Rattle.civl_path_stories.specs.Around.{around_among}
use Rattle.civl_path_stories.proofs.Surrounding.{pushed, none_behind, size_counts}
use Rattle.civl_path_stories.proofs.around.+around.Goals as goal

pub push_among-push_at-requires : goal.push_among-push_at-requires
push_among-push_at-requires t c =
    let items = c.as_slice-stmt-items.result.now in
    let parts = item_parts items c.loop-stmt.stmt-index c.stmt-item.result c.loop-stmt-test.true c.stmt-item.is in
    omega (arith, parts, size_counts c.stmt-item.result, c.loop-stmt.invariant.1, c.requires)

pub push_among-loop-stmt-preserved : goal.push_among-loop-stmt-preserved
push_among-loop-stmt-preserved t c =
    let items = c.as_slice-stmt-items.result.now in
    let inner = c.args.inner in (
      pushed items c.loop-stmt.stmt-index c.stmt-item.result c.loop-stmt-test.true c.stmt-item.is inner c.loop-stmt.here c.loop-stmt.found c.push_inside.new.found
          (c.args.found.now ++ around_among inner c.args.number (statements_of c.args.stmts.now)) c.in_ok-here.here
          (c.in_ok-here.ensures.0 ∙ ap (λ (found : List Around). found ++ around_among inner (c.loop-stmt.here + 1) (inner_of c.stmt-item.result)) c.in_ok-push_at.ensures)
          c.in_ok-here.ensures.1 c.loop-stmt.invariant.0,
      counted_later (λ s. true) items c.loop-stmt.stmt-index c.stmt-item.result c.loop-stmt-test.true c.stmt-item.is c.loop-stmt.here c.in_ok-here.here
          c.in_ok-here.ensures.1 ∙ c.loop-stmt.invariant.1,
    )

pub push_among-returns : goal.push_among-returns
unfolding around_among
push_among-returns t c =
    let none = none_left c.as_slice-stmt-items.result.now c.loop-stmt.stmt-index c.loop-stmt-test.false in (
      sym (none_behind c.loop-stmt.found)
          ∙ ap (λ (stmts : List Stmt). c.loop-stmt.found ++ around_among c.args.inner c.loop-stmt.here stmts) (sym none) ∙ c.loop-stmt.invariant.0,
      omega (arith, c.loop-stmt.invariant.1, ap (length {A = Stmt}) none),
    )
