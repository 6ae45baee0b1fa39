use Rattle.std.proofs.Common.{append-nil, arith}
use Rattle.std.proofs.lemmas.Grind.{common_steps}
use Rattle.civl_firing.specs.Names.{names_of}
use Rattle.civl_goal_stories.proofs.Chained.{step}
use Rattle.civl_goal_stories.proofs.Texts.{change_here, no_change}
use Rattle.civl_goal_stories.proofs.values.push_changes.Goals as goal

pub loop-at-preserved : goal.loop-at-preserved
loop-at-preserved c =
    let next = change_here (names_of c.args.names.now) c.args.first c.loop-at.at c.args.before.now c.args.after.now
    c.index-before-at.result c.index-after-at.result (omega arith) c.index-before-at.is (omega arith) c.index-after-at.is in
    step c.loop-at.texts.items _ _ _ _ _ c.in_ok-push_change.ensures next c.loop-at.invariant

pub returns : goal.returns
returns c =
    let done = no_change (names_of c.args.names.now) c.args.first c.loop-at.at c.args.before.now c.args.after.now (omega arith) in
    grind (arith, common_steps, append-nil, done)
