use Rattle.std.proofs.Common.{◌≡◌, ◌++◌, [], ℕ, length, refl, subst, arith}
use Rattle.civl_cnf.specs.ClauseSet.{IsBelow}
use Rattle.civl_rup.proofs.Hints.{root_follows, follows_root}
use Rattle.civl_rup.proofs.Standings.{conflict_anyway}
use Rattle.civl_rup.proofs.following.follow.Goals as goal

pub returns-then-branch-clause-root : goal.returns-then-branch-clause-root
returns-then-branch-clause-root c =
    let old = c.args.trail.now in
    let all = c.args.formula.now ++ c.args.earlier.now in
    let n = length old.steps in
    follows_root c.heed_all.new.trail all n (c.in_ok-heed_all.ensures.says n [] (root_follows old all n c.requires.loose c.requires.root refl)).0

pub returns-then-branch-clause-rup : goal.returns-then-branch-clause-rup
returns-then-branch-clause-rup c = λ yes.
    let old = c.args.trail.now in
    let all = c.args.formula.now ++ c.args.earlier.now in
    let n = length old.steps in
    let fit = c.in_ok-is_fit.ensures.fit.0 c.if-not-branch.false in
    let met = (c.in_ok-heed_all.ensures.says n [] (root_follows old all n c.requires.loose c.requires.root refl)).1 c.if-branch.true in
    record {
      below = subst (λ (k : ℕ). IsBelow k c.args.clause.now) c.requires.marks fit.0;
      once = fit.1;
      conflict = conflict_anyway all c.args.clause.now met;
    }

pub back_to-requires-clause-levels : goal.back_to-requires-clause-levels
back_to-requires-clause-levels c =
    let old = c.args.trail.now in
    let mid = c.heed_all.new.trail in
    let all = c.args.formula.now ++ c.args.earlier.now in
    let n = length old.steps in
    let root = follows_root mid all n (c.in_ok-heed_all.ensures.says n [] (root_follows old all n c.requires.loose c.requires.root refl)).0 in
    let here = length mid.steps in
    let met = (c.in_ok-falsified.ensures.says here (root_follows mid all here c.in_ok-heed_all.ensures.loose root refl)).0 in
    let within = met.within in
    let size_mid = c.in_ok-heed_all.ensures.loose.size in
    let size_new = c.in_ok-falsified.ensures.loose.size in
    let levels = c.levels-levels.ensures in
    omega arith

pub returns-clause-root : goal.returns-clause-root
returns-clause-root c =
    let old = c.args.trail.now in
    let mid = c.heed_all.new.trail in
    let all = c.args.formula.now ++ c.args.earlier.now in
    let n = length old.steps in
    let root = follows_root mid all n (c.in_ok-heed_all.ensures.says n [] (root_follows old all n c.requires.loose c.requires.root refl)).0 in
    let size_mid = c.in_ok-heed_all.ensures.loose.size in
    let levels = c.levels-levels.ensures in
    let here : c.levels-levels.result ≡ length mid.steps = omega arith in
    let met = (c.in_ok-falsified.ensures.says c.levels-levels.result (root_follows mid all c.levels-levels.result c.in_ok-heed_all.ensures.loose root here)).0 in
    c.back_to.ensures.back all met.base

pub returns-clause-rup : goal.returns-clause-rup
returns-clause-rup c = λ yes.
    let old = c.args.trail.now in
    let mid = c.heed_all.new.trail in
    let all = c.args.formula.now ++ c.args.earlier.now in
    let n = length old.steps in
    let fit = c.in_ok-is_fit.ensures.fit.0 c.if-not-branch.false in
    let root = follows_root mid all n (c.in_ok-heed_all.ensures.says n [] (root_follows old all n c.requires.loose c.requires.root refl)).0 in
    let here = length mid.steps in
    record {
      below = subst (λ (k : ℕ). IsBelow k c.args.clause.now) c.requires.marks fit.0;
      once = fit.1;
      conflict = (c.in_ok-falsified.ensures.says here (root_follows mid all here c.in_ok-heed_all.ensures.loose root refl)).1 yes;
    }
