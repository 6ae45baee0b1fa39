use Rattle.std.proofs.Common.{arith}
use Rattle.civl_action_stories.proofs.Items.{items_fit}
use Rattle.civl_refusals.proofs.heavy.action_spot.Goals as goal

pub overflow_add-before_actions : goal.overflow_add-before_actions
overflow_add-before_actions c =
    omega (arith, items_fit c.args.program.now, c.requires, c.len.ensures, c.before_actions.ensures, c.if-number-len.true)
