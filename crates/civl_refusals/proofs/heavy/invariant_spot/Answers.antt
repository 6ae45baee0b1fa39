use Rattle.std.proofs.Common.{arith}
use Rattle.civl_action_stories.proofs.Items.{items_fit}
use Rattle.civl_refusals.proofs.heavy.invariant_spot.Goals as goal

pub overflow_add-before_invariants : goal.overflow_add-before_invariants
overflow_add-before_invariants c =
    omega (arith, items_fit c.args.program.now, c.requires, c.len.ensures, c.before_invariants.ensures, c.if-place-len.true)
