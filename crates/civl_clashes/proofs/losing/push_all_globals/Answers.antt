use Rattle.std.proofs.Common.{append-nil, arith}
use Rattle.std.proofs.lemmas.Grind.{common_steps}
use Rattle.civl_clashes.proofs.Past.{by_globals_past}
use Rattle.civl_clashes.proofs.losing.push_all_globals.Goals as goal

pub returns : goal.returns
returns c =
    let done = by_globals_past c.args.globals.now c.args.values.now c.loop-at.at c.loop-at.at (omega arith) in
    grind (arith, common_steps, append-nil, done)
