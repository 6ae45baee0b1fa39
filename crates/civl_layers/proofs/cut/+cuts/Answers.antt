use Rattle.std.proofs.Common.{◌∙◌, ◌+◌, ◌++◌, true, List, length, sym, ap, arith}
use Rattle.civl_tree.specs.declared.stmt.Stmt.{Stmt}
use Rattle.civl_tree.specs.Numbering.{statements_of, inner_of}
use Rattle.civl_names.proofs.walks.Walking.{counted_later, none_left}
use Rattle.civl_layers.specs.declared.cut.Cut.{Cut}
use Rattle.civl_layers.specs.Cuts.{cuts_among}
use Rattle.civl_layers.proofs.Cutting.{pushed, none_behind}
use Rattle.civl_layers.proofs.cut.+cuts.Goals as goal

pub push_cuts-loop-stmt-preserved : goal.push_cuts-loop-stmt-preserved
push_cuts-loop-stmt-preserved t c =
    let items = c.as_slice-stmt-items.result.now in (
      pushed items c.loop-stmt.stmt-index c.stmt-item.result c.loop-stmt-test.true c.stmt-item.is c.loop-stmt.here c.loop-stmt.cuts c.push_inner.new.cuts (c.args.cuts.now ++ cuts_among c.args.number (statements_of c.args.stmts.now)) c.in_ok-here.here
          (c.in_ok-here.ensures.0 ∙ ap (λ (cuts : List Cut). cuts ++ cuts_among (c.loop-stmt.here + 1) (inner_of c.stmt-item.result)) c.in_ok-push_cut.ensures) c.in_ok-here.ensures.1 c.loop-stmt.invariant.0,
      counted_later (λ s. true) items c.loop-stmt.stmt-index c.stmt-item.result c.loop-stmt-test.true c.stmt-item.is c.loop-stmt.here c.in_ok-here.here c.in_ok-here.ensures.1 ∙ c.loop-stmt.invariant.1,
    )

pub push_cuts-returns : goal.push_cuts-returns
unfolding cuts_among
push_cuts-returns t c =
    let none = none_left c.as_slice-stmt-items.result.now c.loop-stmt.stmt-index c.loop-stmt-test.false in (
      sym (none_behind c.loop-stmt.cuts) ∙ ap (λ (stmts : List Stmt). c.loop-stmt.cuts ++ cuts_among c.loop-stmt.here stmts) (sym none) ∙ c.loop-stmt.invariant.0,
      omega (arith, c.loop-stmt.invariant.1, ap (length {A = Stmt}) none),
    )
