use Rattle.std.proofs.Common.{rules}
use Rattle.civl_yields.specs.inner.Marks.{seen}
use Rattle.civl_yields.proofs.Stepping.{seen_more, seen_all}
use Rattle.civl_yields.proofs.marking.add_inside.Goals as goal

pub loop-phase-preserved : goal.loop-phase-preserved
loop-phase-preserved c = λ head. seen_more head (seen head c.args.at_head) _ _ _ c.args.found.now c.loop-phase.phase-index _ _ c.loop-phase-test.true (search rules) c.in_ok-push.ensures.items (c.inside.ensures head) (c.loop-phase.invariant head)

pub returns : goal.returns
returns c = λ head. seen_all head (seen head c.args.at_head) _ _ c.args.found.now c.loop-phase.phase-index c.loop-phase-test.false (c.loop-phase.invariant head)
