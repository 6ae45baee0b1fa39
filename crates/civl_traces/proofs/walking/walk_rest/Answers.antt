use Rattle.std.proofs.Common.{ap, ◌∙◌}
use Rattle.civl_tree.specs.declared.stmt.Stmt.{out-Stmt}
use Rattle.civl_tree.proofs.Sizes.{yield_loop_out, rank_loop_out}
use Rattle.civl_meaning.specs.Remaining.{rest_of}
use Rattle.civl_traces.specs.inner.Walking.{course_of}
use Rattle.civl_traces.proofs.Going.{ok_as, went_yield_loop, went_rank_loop, went_other, no_loop}
use Rattle.civl_traces.proofs.walking.walk_rest.Goals as goal

pub returns-in-YieldLoop : goal.returns-in-YieldLoop
returns-in-YieldLoop c =
    let q = c.in-Some.first.now in
    let s = c.in-YieldLoop in
    ok_as _ _ c.walk_loop.result
    (λ e h. went_yield_loop (course_of c.args.way.now) c.args.walker.now c.walk_loop.new.walker e (rest_of c.args.rest.now) q.number q.stmt.now (rest_of c.in-Some.behind.now) (ap rest_of c.in-Some.ensures.cases.0)
    s.test s.field-1 s.body (ap out-Stmt s.is ∙ yield_loop_out s.test s.field-1 s.body) h) c.walk_loop.ensures

pub returns-in-RankLoop : goal.returns-in-RankLoop
returns-in-RankLoop c =
    let q = c.in-Some.first.now in
    let s = c.in-RankLoop in
    ok_as _ _ c.walk_loop-in-RankLoop.result
    (λ e h. went_rank_loop (course_of c.args.way.now) c.args.walker.now c.walk_loop-in-RankLoop.new.walker e (rest_of c.args.rest.now) q.number q.stmt.now (rest_of c.in-Some.behind.now) (ap rest_of c.in-Some.ensures.cases.0)
    s.test s.field-1 s.field-2 s.body (ap out-Stmt s.is ∙ rank_loop_out s.test s.field-1 s.field-2 s.body) h) c.walk_loop-in-RankLoop.ensures

pub returns-in_default-stmt : goal.returns-in_default-stmt
returns-in_default-stmt c =
    let q = c.in-Some.first.now in
    ok_as _ _ c.walk_all.result
    (λ e h. went_other (course_of c.args.way.now) c.args.walker.now c.walk_all.new.walker e (rest_of c.args.rest.now) q.number q.stmt.now (rest_of c.in-Some.behind.now) (ap rest_of c.in-Some.ensures.cases.0)
    (no_loop q.stmt.now c.in_default-stmt.not-YieldLoop c.in_default-stmt.not-RankLoop) h) c.walk_all.ensures
