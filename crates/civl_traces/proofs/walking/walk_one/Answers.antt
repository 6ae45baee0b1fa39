use Rattle.std.proofs.Common.{sym, ap, ◌∙◌}
use Rattle.civl_traces.specs.declared.walked.Moment.{Moment}
use Rattle.civl_traces.specs.Traces.{moved}
use Rattle.civl_traces.specs.Told.{progress}
use Rattle.civl_traces.specs.inner.Walking.{course_of, with_passage}
use Rattle.civl_traces.proofs.Going.{stands, went_past, went_ends}
use Rattle.civl_traces.proofs.walking.walk_one.Goals as goal

pub returns-then-not-goes_on : goal.returns-then-not-goes_on
returns-then-not-goes_on c =
    went_ends (course_of c.args.way.now) c.args.stmt.now c.args.number c.args.walker.now c.pass.new.moment c.in_ok-ending.ending c.requires (sym c.if-not-goes_on.ensures) c.in_ok-ending.ensures

pub returns : goal.returns
returns c =
    let a = c.args.walker.now in
    let course = course_of c.args.way.now in
    let n = c.args.number in
    let m = c.pass.new.moment in
    went_past course c.args.stmt.now n a c.tell.new.walker m c.in_ok-ending.ending c.requires (sym c.if-not-goes_on.ensures) c.in_ok-ending.ensures
    (c.in_ok-tell.ensures ∙ ap (λ (p : Moment). with_passage (moved n (progress p) (progress m)) (stands course c.args.stmt.now n a m a.at)) c.in_ok-before.ensures)
