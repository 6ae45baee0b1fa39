use Rattle.std.proofs.Common.{arith}
use Rattle.civl_action_stories.proofs.Items.{items_fit}
use Rattle.civl_refusals.proofs.heavy.proc_spot.Goals as goal

pub overflow_add-before_procs : goal.overflow_add-before_procs
overflow_add-before_procs c =
    omega (arith, items_fit c.args.program.now, c.requires, c.len.ensures, c.before_procs.ensures, c.if-number-len.true)
