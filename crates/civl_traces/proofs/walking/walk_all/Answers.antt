use Rattle.std.proofs.Common.{drop, sym}
use Rattle.civl_meaning.specs.Remaining.{rest_of}
use Rattle.civl_traces.specs.Traces.{tell_all}
use Rattle.civl_traces.specs.inner.Walking.{course_of}
use Rattle.civl_traces.proofs.Going.{goes_next, goes_out, goes_end, next_rest, none_rest}
use Rattle.civl_traces.proofs.Within.{within_next}
use Rattle.civl_traces.proofs.walking.walk_all.Goals as goal

pub loop-one-preserved : goal.loop-one-preserved
loop-one-preserved c =
    let l = c.loop-one in
    let first = tell_all (course_of c.args.way.now) (rest_of c.args.rest.now) in
    let q = c.one-item.result in
    let next = next_rest c.args.rest.now l.one-index q c.loop-one-test.true c.one-item.is in
    record {
      within = (within_next _ q.number q.stmt.now _ next l.invariant.within).1;
      going =
          goes_next (course_of c.args.way.now) c.args.walker.now l.walker c.walk_stmt.new.walker c.in_ok-ending.ending first (rest_of (drop l.one-index c.args.rest.now)) q.number q.stmt.now _
          next l.invariant.going c.in_ok-ending.ensures (sym c.if-not-goes_on.ensures);
    }

pub walk_stmt-requires : goal.walk_stmt-requires
walk_stmt-requires c =
    let l = c.loop-one in
    let q = c.one-item.result in
    (within_next _ q.number q.stmt.now _ (next_rest c.args.rest.now l.one-index q c.loop-one-test.true c.one-item.is) l.invariant.within).0

pub returns-then-not-goes_on : goal.returns-then-not-goes_on
returns-then-not-goes_on c =
    let l = c.loop-one in
    let first = tell_all (course_of c.args.way.now) (rest_of c.args.rest.now) in
    let q = c.one-item.result in
    goes_out (course_of c.args.way.now) c.args.walker.now l.walker c.walk_stmt.new.walker c.in_ok-ending.ending first (rest_of (drop l.one-index c.args.rest.now)) q.number q.stmt.now _
    (next_rest c.args.rest.now l.one-index q c.loop-one-test.true c.one-item.is) l.invariant.going c.in_ok-ending.ensures (sym c.if-not-goes_on.ensures)

pub returns : goal.returns
returns c =
    let l = c.loop-one in
    let first = tell_all (course_of c.args.way.now) (rest_of c.args.rest.now) in
    goes_end (course_of c.args.way.now) c.args.walker.now l.walker first (rest_of (drop l.one-index c.args.rest.now)) (none_rest c.args.rest.now l.one-index c.loop-one-test.false) l.invariant.going
