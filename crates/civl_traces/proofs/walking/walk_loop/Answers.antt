use Rattle.std.proofs.Common.{ap, sym}
use Rattle.civl_meaning.specs.Remaining.{rest_of}
use Rattle.civl_traces.specs.inner.Walking.{course_of}
use Rattle.civl_traces.proofs.Going.{ok_as, loop_no, loop_out, loop_again}
use Rattle.civl_traces.proofs.walking.walk_loop.Goals as goal

pub returns-then-not-truth : goal.returns-then-not-truth
returns-then-not-truth c =
    let q = c.in-Some.head.now in
    ok_as _ _ c.walk_all.result
    (λ e h. loop_no (course_of c.args.way.now) c.args.walker.now c.decide.new.walker c.args.test.now c.args.body.now (rest_of c.args.rest.now) q.number q.stmt.now (rest_of c.in-Some.behind.now)
    (ap rest_of c.in-Some.ensures.cases.0) c.walk_all.new.walker e c.tested-truth.result c.if-not-truth.true c.tested-truth.ensures c.in_ok-decide.ensures h) c.walk_all.ensures

pub returns-then-not-goes_on : goal.returns-then-not-goes_on
returns-then-not-goes_on c =
    let q = c.in-Some.head.now in
    loop_out (course_of c.args.way.now) c.args.walker.now c.decide.new.walker c.args.test.now c.args.body.now (rest_of c.args.rest.now) q.number q.stmt.now (rest_of c.in-Some.behind.now)
    (ap rest_of c.in-Some.ensures.cases.0) c.walk_stmts.new.walker c.in_ok-ending.ending c.tested-truth.result c.if-not-truth.false c.tested-truth.ensures c.in_ok-decide.ensures c.in_ok-ending.ensures (sym c.if-not-goes_on.ensures)

pub returns : goal.returns
returns c =
    let q = c.in-Some.head.now in
    ok_as _ _ c.walk_all-2.result
    (λ f h. loop_again (course_of c.args.way.now) c.args.walker.now c.decide.new.walker c.args.test.now c.args.body.now (rest_of c.args.rest.now) q.number q.stmt.now (rest_of c.in-Some.behind.now)
    (ap rest_of c.in-Some.ensures.cases.0) c.walk_stmts.new.walker c.walk_all-2.new.walker c.in_ok-ending.ending f c.tested-truth.result c.if-not-truth.false c.tested-truth.ensures c.in_ok-decide.ensures
    c.in_ok-ending.ensures (sym c.if-not-goes_on.ensures) h) c.walk_all-2.ensures
