use Rattle.std.proofs.Common.{sym, length}
use Rattle.civl_cdcl.proofs.Lessons.{clears_first, clears_at, cleared, known_under}
use Rattle.civl_cdcl.proofs.teaching.forget.Goals as goal

pub loop-variable-init : goal.loop-variable-init
loop-variable-init c = clears_first c.args.seen.now c.args.found.now c.requires

pub bounds-seen-variable : goal.bounds-seen-variable
bounds-seen-variable c = known_under c.args.seen.now c.args.found.now c.loop-variable.variable-index _ (length c.loop-variable.seen) c.requires c.loop-variable-test.true (sym c.loop-variable.invariant.size)

pub loop-variable-preserved : goal.loop-variable-preserved
loop-variable-preserved c = clears_at c.args.seen.now c.loop-variable.seen c.args.found.now c.loop-variable.variable-index _ c.requires c.loop-variable-test.true c.loop-variable.invariant

pub returns-clause-none : goal.returns-clause-none
returns-clause-none c = cleared c.args.seen.now c.loop-variable.seen c.args.found.now c.loop-variable.variable-index c.loop-variable-test.false c.loop-variable.invariant
