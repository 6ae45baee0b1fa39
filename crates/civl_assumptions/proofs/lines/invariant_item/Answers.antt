use Rattle.std.proofs.Common.{arith}
use Rattle.civl_action_stories.proofs.Items.{items_fit}
use Rattle.civl_assumptions.proofs.lines.invariant_item.Goals as goal

pub overflow_add-result : goal.overflow_add-result
overflow_add-result c = omega (arith, items_fit c.args.program.now, c.requires.short, c.requires.there, c.len.ensures)

pub overflow_add-result-2 : goal.overflow_add-result-2
overflow_add-result-2 c = omega (arith, items_fit c.args.program.now, c.requires.short, c.requires.there, c.len.ensures)
