use Rattle.std.proofs.Common.{◌∙◌, ◌++◌, subst}
use Rattle.civl_rup.specs.inner.Following.{Heeds}
use Rattle.civl_rup.proofs.Hints.{heeds_then}
use Rattle.civl_rup.proofs.following.heed_all.Goals as goal

pub returns-then-branch-clause-says : goal.returns-then-branch-clause-says
returns-then-branch-clause-says c =
    let all = c.args.formula.now ++ c.args.earlier.now in
    let says = subst (Heeds c.loop-hint.trail c.heed_number.new.trail all) c.if-branch.true c.in_ok-heed_number.ensures.says in
    heeds_then c.args.trail.now c.loop-hint.trail c.heed_number.new.trail all _ c.loop-hint.invariant.heeds says

pub loop-hint-preserved : goal.loop-hint-preserved
loop-hint-preserved c =
    let all = c.args.formula.now ++ c.args.earlier.now in
    let says = subst (Heeds c.loop-hint.trail c.heed_number.new.trail all) c.if-branch.false c.in_ok-heed_number.ensures.says in
    record {
      loose = c.in_ok-heed_number.ensures.loose;
      size = c.in_ok-heed_number.ensures.size ∙ c.loop-hint.invariant.size;
      heeds = heeds_then c.args.trail.now c.loop-hint.trail c.heed_number.new.trail all _ c.loop-hint.invariant.heeds says;
    }
