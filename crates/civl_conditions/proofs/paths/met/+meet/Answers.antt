use Rattle.std.proofs.Common.{◌∙◌, sym, ap, arith}
use Rattle.civl_conditions.specs.paths.Meets.{met_behind}
use Rattle.civl_conditions.proofs.paths.Walked.{walk_behind, walk_end, sizes_behind, sizes_end}
use Rattle.civl_conditions.proofs.paths.met.+meet.Goals as goal

pub meet_all-loop-stmt-preserved : goal.meet_all-loop-stmt-preserved
meet_all-loop-stmt-preserved t c =
    let items = c.as_slice-stmt-items.result.now in
    let l = c.loop-stmt in
    let stmt = c.stmt-item.result in
    record {
      counted = omega (arith, c.in_ok-next.ensures.1, sizes_behind items l.stmt-index stmt c.loop-stmt-test.true c.stmt-item.is, l.invariant.counted);
      walked =
          walk_behind c.args.from items l.stmt-index stmt l.here c.in_ok-next.next l.met c.go_on.new.met _ c.loop-stmt-test.true c.stmt-item.is
          c.in_ok-next.ensures.1 (c.go_on.ensures ∙ ap (met_behind c.args.from l.here) c.in_ok-next.ensures.0) l.invariant.walked;
    }

pub meet_all-returns : goal.meet_all-returns
meet_all-returns t c =
    let items = c.as_slice-stmt-items.result.now in
    let l = c.loop-stmt in (
      sym (walk_end c.args.from items l.stmt-index l.here l.met c.loop-stmt-test.false) ∙ l.invariant.walked,
      omega (arith, sizes_end items l.stmt-index c.loop-stmt-test.false, l.invariant.counted),
    )
