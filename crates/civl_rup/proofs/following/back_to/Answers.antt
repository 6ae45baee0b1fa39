use Rattle.std.proofs.Common.{arith}
use Rattle.civl_rup.proofs.Hints.{cut_loose, cut_root, whole_root}
use Rattle.civl_rup.proofs.following.back_to.Goals as goal

pub returns-then-levels-clause-loose : goal.returns-then-levels-clause-loose
returns-then-levels-clause-loose c = cut_loose c.args.trail.now c.cut.new.self c.args.levels (omega arith) c.requires.loose c.cut.ensures

pub returns-then-levels-clause-back : goal.returns-then-levels-clause-back
returns-then-levels-clause-back c clauses = cut_root c.args.trail.now c.cut.new.self c.args.levels clauses (omega arith) c.requires.loose c.cut.ensures

pub returns-else-levels-clause-back : goal.returns-else-levels-clause-back
returns-else-levels-clause-back c clauses = whole_root c.args.trail.now c.args.levels clauses (omega arith) c.requires.levels c.requires.loose
