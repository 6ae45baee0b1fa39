use Rattle.std.proofs.Common.{arith}
use Rattle.civl_action_stories.proofs.Items.{items_fit}
use Rattle.civl_action_stories.proofs.starts.token_there.Goals as goal

pub overflow_add-before : goal.overflow_add-before
overflow_add-before c = omega (arith, items_fit c.args.program.now, c.requires.short, c.requires.there, c.len-before.ensures)

pub overflow_add-before-2 : goal.overflow_add-before-2
overflow_add-before-2 c = omega (arith, items_fit c.args.program.now, c.requires.short, c.requires.there, c.len-before.ensures)
