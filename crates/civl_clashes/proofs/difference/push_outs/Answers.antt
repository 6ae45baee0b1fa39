use Rattle.std.proofs.Common.{append-nil, arith}
use Rattle.std.proofs.lemmas.Grind.{common_steps}
use Rattle.civl_clashes.proofs.Past.{outs_past}
use Rattle.civl_clashes.proofs.difference.push_outs.Goals as goal

pub returns : goal.returns
returns c =
    let done = outs_past c.args.which c.args.kept.now c.args.exchanged.now c.loop-at.at c.loop-at.at (omega arith) in
    grind (arith, common_steps, append-nil, done)
