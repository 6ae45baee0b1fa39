use Rattle.std.proofs.Common.{◌++◌}
use Rattle.civl_rup.proofs.following.meet.Goals as goal

pub returns-then-not-branch-clause-says : goal.returns-then-not-branch-clause-says
returns-then-not-branch-clause-says c first f = (c.in_ok-make_all_false.ensures.says first (c.args.formula.now ++ c.args.earlier.now) f, λ yes. cc)

pub returns-clause-says : goal.returns-clause-says
returns-clause-says c first f =
    c.in_ok-falsified.ensures.says first c.args.clause.now (c.in_ok-make_all_false.ensures.says first (c.args.formula.now ++ c.args.earlier.now) f)
