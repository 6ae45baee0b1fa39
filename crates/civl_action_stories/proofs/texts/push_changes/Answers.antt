use Rattle.std.proofs.Common.{append-nil, arith}
use Rattle.std.proofs.lemmas.Grind.{common_steps}
use Rattle.civl_action_stories.proofs.Past.{changes_past}
use Rattle.civl_action_stories.proofs.texts.push_changes.Goals as goal

pub returns : goal.returns
returns c =
    let done = changes_past c.args.globals.now c.args.before.now c.args.after.now c.loop-at.at (omega arith) in
    grind (arith, common_steps, append-nil, done)
