use Rattle.std.proofs.Common.{append-nil, arith}
use Rattle.std.proofs.lemmas.Grind.{common_steps}
use Rattle.civl_action_stories.proofs.Past.{choices_past}
use Rattle.civl_action_stories.proofs.texts.push_choices.Goals as goal

pub returns : goal.returns
returns c =
    let done = choices_past c.args.choices.now c.args.values.now c.loop-at.at (omega arith) in
    grind (arith, common_steps, append-nil, done)
