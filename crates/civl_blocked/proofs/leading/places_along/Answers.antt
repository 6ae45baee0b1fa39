use Rattle.std.proofs.Common.{◌<◌, ◌+◌, drop, length, arith, subst}
use Rattle.civl_tree.proofs.Lists.{drop_is}
use Rattle.civl_blocked.specs.inner.Segments.{over, FailsTo}
use Rattle.civl_blocked.proofs.Strides.{first_runs, rest_fails}
use Rattle.civl_blocked.proofs.leading.places_along.Goals as goal

pub passed-requires-clause-runs : goal.passed-requires-clause-runs
passed-requires-clause-runs c =
    let rest = c.args.rest.now in
    let h : c.loop-at.at < length rest.items = omega (arith, rest.ok.0) in
    let is = drop_is rest.items c.loop-at.at c.index.result.now h c.index.ensures in
    first_runs (over c.args.ground.now) c.index.result.now (drop (c.loop-at.at + 1) rest.items) c.loop-at.config (subst (λ l. FailsTo (over c.args.ground.now) l c.loop-at.config) is c.loop-at.invariant.fails)

pub loop-at-preserved : goal.loop-at-preserved
loop-at-preserved c =
    let rest = c.args.rest.now in
    let h : c.loop-at.at < length rest.items = omega (arith, rest.ok.0) in
    let is = drop_is rest.items c.loop-at.at c.index.result.now h c.index.ensures in
    record {
      fails = rest_fails (over c.args.ground.now) c.index.result.now (drop (c.loop-at.at + 1) rest.items) c.loop-at.config c.passed.new.config (subst (λ l. FailsTo (over c.args.ground.now) l c.loop-at.config) is c.loop-at.invariant.fails) c.in_ok-place.ensures.made;
      one_each = grind arith;
    }
