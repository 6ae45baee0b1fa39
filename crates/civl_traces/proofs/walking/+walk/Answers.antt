use Rattle.std.proofs.Common.{◌≡◌, ℕ, ◌+◌, ◌∙◌, drop, refl, sym, ap, arith}
use Rattle.civl_tree.specs.declared.stmt.Stmt.{out-Stmt}
use Rattle.civl_tree.specs.Numbering.{size_of, numbered}
use Rattle.civl_tree.proofs.Sizes.{if_out}
use Rattle.civl_conditions.proofs.paths.Walked.{sizes_behind}
use Rattle.civl_traces.specs.Traces.{tell_all}
use Rattle.civl_traces.specs.inner.Walking.{course_of}
use Rattle.civl_traces.proofs.Going.{ok_as, went_yes, went_no, goes_next, goes_out, goes_end, next_numbered, none_numbered}
use Rattle.civl_traces.proofs.walking.+walk.Goals as goal

pub walk_stmt-returns-then-truth : goal.walk_stmt-returns-then-truth
walk_stmt-returns-then-truth t c =
    let o = ap out-Stmt c.in-If.is ∙ if_out c.in-If.test c.in-If.first c.in-If.second in
    ok_as _ _ c.walk_stmts.result
    (λ e h. went_yes (course_of c.args.way.now) c.args.stmt.now c.args.number c.args.walker.now c.walk_stmts.new.walker c.decide.new.walker e c.in-If.test c.in-If.first c.in-If.second
    c.tested-truth.result c.if-truth.true o c.tested-truth.ensures c.in_ok-decide-in-If.ensures h) c.walk_stmts.ensures

pub walk_stmt-returns-else-truth : goal.walk_stmt-returns-else-truth
walk_stmt-returns-else-truth t c =
    let o = ap out-Stmt c.in-If.is ∙ if_out c.in-If.test c.in-If.first c.in-If.second in
    ok_as _ _ c.walk_stmts-else-truth.result
    (λ e h. went_no (course_of c.args.way.now) c.args.stmt.now c.args.number c.args.walker.now c.walk_stmts-else-truth.new.walker c.decide.new.walker e c.in-If.test c.in-If.first c.in-If.second
    c.tested-truth.result c.sizes.result c.if-truth.false c.sizes.ensures o c.tested-truth.ensures c.in_ok-decide-in-If.ensures h) c.walk_stmts-else-truth.ensures

pub walk_stmts-loop-stmt-preserved : goal.walk_stmts-loop-stmt-preserved
walk_stmts-loop-stmt-preserved t c =
    let items = c.as_slice-stmt-items.result.now in
    let l = c.loop-stmt in
    let first = tell_all (course_of c.args.way.now) (numbered c.args.number c.args.stmts.now) in
    let s = c.stmt-item.result in
    let next : l.here + c.size-here.result ≡ l.here + size_of s = ap (λ (m : ℕ). l.here + m) c.size-here.ensures in
    record {
      counted = omega (arith, c.size-here.ensures, sizes_behind items l.stmt-index s c.loop-stmt-test.true c.stmt-item.is, l.invariant.counted);
      going =
          goes_next (course_of c.args.way.now) c.args.walker.now l.walker c.walk_stmt.new.walker c.in_ok-ending.ending first (numbered l.here (drop l.stmt-index items)) l.here s _
          (next_numbered items l.stmt-index s l.here (l.here + c.size-here.result) c.loop-stmt-test.true c.stmt-item.is next) l.invariant.going c.in_ok-ending.ensures (sym c.if-not-goes_on.ensures);
    }

pub walk_stmts-returns-then-not-goes_on : goal.walk_stmts-returns-then-not-goes_on
walk_stmts-returns-then-not-goes_on t c =
    let items = c.as_slice-stmt-items.result.now in
    let l = c.loop-stmt in
    let first = tell_all (course_of c.args.way.now) (numbered c.args.number c.args.stmts.now) in
    let s = c.stmt-item.result in
    goes_out (course_of c.args.way.now) c.args.walker.now l.walker c.walk_stmt.new.walker c.in_ok-ending.ending first (numbered l.here (drop l.stmt-index items)) l.here s _
    (next_numbered items l.stmt-index s l.here (l.here + size_of s) c.loop-stmt-test.true c.stmt-item.is refl) l.invariant.going c.in_ok-ending.ensures (sym c.if-not-goes_on.ensures)

pub walk_stmts-returns : goal.walk_stmts-returns
walk_stmts-returns t c =
    let items = c.as_slice-stmt-items.result.now in
    let l = c.loop-stmt in
    let first = tell_all (course_of c.args.way.now) (numbered c.args.number c.args.stmts.now) in
    goes_end (course_of c.args.way.now) c.args.walker.now l.walker first (numbered l.here (drop l.stmt-index items)) (none_numbered items l.stmt-index l.here c.loop-stmt-test.false) l.invariant.going
