use Rattle.civl_linear.proofs.Limits.{names_fit}
use Rattle.civl_linear.proofs.listing.held_in.Goals as goal

pub held_of-requires : goal.held_of-requires
held_of-requires c = names_fit c.args.program.now c.requires.rules c.as_slice-proc-items.result.now c.as_slice-proc-items.ensures c.loop-proc.proc-index c.proc-item.result c.loop-proc-test.true c.proc-item.is
