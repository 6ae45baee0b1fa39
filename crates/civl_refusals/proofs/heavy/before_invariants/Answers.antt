use Rattle.std.proofs.Common.{arith}
use Rattle.civl_action_stories.proofs.Items.{items_fit}
use Rattle.civl_refusals.proofs.heavy.before_invariants.Goals as goal

pub overflow_add-result : goal.overflow_add-result
overflow_add-result c = omega (arith, items_fit c.args.program.now, c.requires, c.len.ensures)
