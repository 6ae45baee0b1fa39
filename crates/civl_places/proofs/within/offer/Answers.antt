use Rattle.std.proofs.Common.{arith}
use Rattle.civl_places.proofs.Expressions.{offer_fits, past_none}
use Rattle.civl_places.proofs.within.offer.Goals as goal

pub overflow_add-before : goal.overflow_add-before
overflow_add-before c = omega (arith, offer_fits c.args.action.now c.args.number c.get-choice.result.now _ c.as_slice.ensures c.get-choice.ensures)

pub overflow_add-before-then-number-len : goal.overflow_add-before-then-number-len
overflow_add-before-then-number-len c =
    omega (arith, offer_fits c.args.action.now c.args.number c.get-choice.result.now _ c.as_slice.ensures c.get-choice.ensures)

pub overflow_add-result-then-number-len : goal.overflow_add-result-then-number-len
overflow_add-result-then-number-len c =
    omega (arith, offer_fits c.args.action.now c.args.number c.get-choice.result.now _ c.as_slice.ensures c.get-choice.ensures)

pub returns-else-number-len : goal.returns-else-number-len
returns-else-number-len c = past_none _ c.args.action.now.choices c.args.number (omega arith)
