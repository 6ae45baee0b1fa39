use Rattle.std.proofs.Common.{append-nil, arith}
use Rattle.std.proofs.lemmas.Grind.{common_steps}
use Rattle.civl_conditions.specs.footprints.Agreement.{exists_at}
use Rattle.civl_losses.proofs.Differences.{globals_past}
use Rattle.civl_losses.proofs.differing.push_globals.Goals as goal

pub returns : goal.returns
returns c =
    let done = globals_past (exists_at c.args.layer) c.args.globals.now c.args.after.now c.args.before.now c.loop-at.at c.loop-at.at (omega arith) in
    grind (arith, common_steps, append-nil, done)
