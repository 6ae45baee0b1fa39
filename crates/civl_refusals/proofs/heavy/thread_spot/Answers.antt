use Rattle.std.proofs.Common.{arith}
use Rattle.civl_action_stories.proofs.Items.{items_fit}
use Rattle.civl_refusals.proofs.heavy.thread_spot.Goals as goal

pub overflow_add-before_threads : goal.overflow_add-before_threads
overflow_add-before_threads c =
    omega (arith, items_fit c.args.program.now, c.requires, c.len.ensures, c.before_threads.ensures, c.if-number-len.true)
