use Rattle.std.proofs.Common.{arith}
use Rattle.civl_places.proofs.Expressions.{update_fits, past_none}
use Rattle.civl_places.proofs.within.update.Goals as goal

pub count_each-before-requires : goal.count_each-before-requires
count_each-before-requires c = omega (arith, update_fits c.args.action.now c.args.number c.get-update.result.now _ c.as_slice.ensures c.get-update.ensures)

pub overflow_add-before : goal.overflow_add-before
overflow_add-before c = omega (arith, update_fits c.args.action.now c.args.number c.get-update.result.now _ c.as_slice.ensures c.get-update.ensures)

pub overflow_add-result-then-number-len : goal.overflow_add-result-then-number-len
overflow_add-result-then-number-len c =
    omega (arith, update_fits c.args.action.now c.args.number c.get-update.result.now _ c.as_slice.ensures c.get-update.ensures)

pub returns-else-number-len : goal.returns-else-number-len
returns-else-number-len c = past_none _ c.args.action.now.updates c.args.number (omega arith)
