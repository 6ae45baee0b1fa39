use Rattle.std.proofs.Common.{◌∙◌, ◌+◌, ◌≤◌, ℕ, length, arith, sym, subst}
use Rattle.civl_blocked.specs.Blocked.{IsTurned, IsUnended}
use Rattle.civl_blocked.specs.inner.Segments.{program_of}
use Rattle.civl_blocked.specs.inner.Turning.{IsNext, measure, ended, left_of}
use Rattle.civl_blocked.proofs.turning.turn.Goals as goal

pub loop-turning-smaller : goal.loop-turning-smaller
loop-turning-smaller c =
    let g = c.args.ground.now in
    let t = c.loop-turning.turning in
    let bound : ℕ = ended g t.done.items + left_of g t.open t.rest.items t.beside.config in
    let few : bound ≤ bound = omega arith in
    (subst (IsNext g bound (measure g t) c.go_on.new.turning) c.in-Goes.is (c.in_ok-go_on.ensures bound few)).2

pub loop-turning-preserved : goal.loop-turning-preserved
loop-turning-preserved c =
    let g = c.args.ground.now in
    let t = c.loop-turning.turning in
    let bound : ℕ = ended g t.done.items + left_of g t.open t.rest.items t.beside.config in
    let few : bound ≤ bound = omega arith in
    record {
      going = (subst (IsNext g bound (measure g t) c.go_on.new.turning) c.in-Goes.is (c.in_ok-go_on.ensures bound few)).0;
      few = λ b f. (subst (IsNext g b (measure g t) c.go_on.new.turning) c.in-Goes.is (c.in_ok-go_on.ensures b (c.loop-turning.invariant.few b f))).1;
    }

pub returns-in-Done : goal.returns-in-Done
returns-in-Done c given few =
    let g = c.args.ground.now in
    let t = c.loop-turning.turning in
    let same : length given ≤ length given = omega arith in
    subst (IsTurned (program_of g) g.layer g.store.now given) (sym c.from_vec.ensures)
    (subst (IsNext g (length given) (measure g t) c.go_on.new.turning) c.in-Done.is (c.in_ok-go_on.ensures (length given) (c.loop-turning.invariant.few (length given) few)) given same)

pub returns-in-Spent : goal.returns-in-Spent
returns-in-Spent c given few =
    let g = c.args.ground.now in
    let t = c.loop-turning.turning in
    subst (IsUnended (program_of g) g.layer g.store.now 1000000 c.in-Spent.thread) (sym (c.from_vec-in-Spent.ensures ∙ c.in_ok-append-in-Spent.ensures.items))
    (subst (IsNext g (length given) (measure g t) c.go_on.new.turning) c.in-Spent.is (c.in_ok-go_on.ensures (length given) (c.loop-turning.invariant.few (length given) few)))
