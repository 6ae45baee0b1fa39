use Rattle.civl_explain_command.proofs.Replaying.{few_moves, same_count}
use Rattle.civl_explain_command.proofs.run.judge_lawful.Goals as goal

pub replay-requires-clause-few : goal.replay-requires-clause-few
replay-requires-clause-few c =
    few_moves c.args.src.now c.program.result.now c.args.script.now.store c.args.script.now.moves c.args.end c.in-Ok.plain c.in-Ok-Fits.store c.in-Ok-Fits.moves
    c.in-Ok.ensures (rw c.in-Ok-Fits.field-0-is at c.in-Ok-Fits.ensures) c.requires.few

pub replay-requires-clause-same : goal.replay-requires-clause-same
replay-requires-clause-same c =
    same_count c.program.result.now c.args.script.now.store c.args.script.now.moves c.in-Ok-Fits.store c.in-Ok-Fits.moves
    (rw c.in-Ok-Fits.field-0-is at c.in-Ok-Fits.ensures)
