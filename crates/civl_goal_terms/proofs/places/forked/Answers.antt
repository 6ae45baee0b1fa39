use Rattle.std.proofs.Common.{arith}
use Rattle.civl_tree.proofs.Sizes.{size_is_some}
use Rattle.civl_goal_terms.proofs.Placing.{inside, second_inside}
use Rattle.civl_goal_terms.proofs.places.forked.Goals as goal

pub overflow_add-number : goal.overflow_add-number
overflow_add-number c = let a = c.args.at.now in omega (arith, c.requires.small, second_inside a.proc.now.body a.number a.stmt.now a.next c.requires.spot _ _ _ c.in-If.is)

pub second-requires : goal.second-requires
second-requires c = let a = c.args.at.now in omega (arith, c.requires.small, second_inside a.proc.now.body a.number a.stmt.now a.next c.requires.spot _ _ _ c.in-If.is)

pub overflow_add-number-in-While : goal.overflow_add-number-in-While
overflow_add-number-in-While c = let a = c.args.at.now in omega (arith, c.requires.small, inside a.proc.now.body a.number a.stmt.now a.next c.requires.spot, size_is_some a.stmt.now)

pub overflow_add-number-in-YieldLoop : goal.overflow_add-number-in-YieldLoop
overflow_add-number-in-YieldLoop c = let a = c.args.at.now in omega (arith, c.requires.small, inside a.proc.now.body a.number a.stmt.now a.next c.requires.spot, size_is_some a.stmt.now)

pub overflow_add-number-in-RankLoop : goal.overflow_add-number-in-RankLoop
overflow_add-number-in-RankLoop c = let a = c.args.at.now in omega (arith, c.requires.small, inside a.proc.now.body a.number a.stmt.now a.next c.requires.spot, size_is_some a.stmt.now)
