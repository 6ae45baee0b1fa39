use Rattle.std.specs.Prelude.{length}
use Rattle.std.proofs.Common.{◌+◌, arith}
use Rattle.civl_conditions.specs.Weights.{linear_globals}
use Rattle.civl_states.proofs.Picking.{permissions_some, items_small}
use Rattle.civl_refine.proofs.owned.owned_apart.Goals as goal

pub returns-clause-test : goal.returns-clause-test
returns-clause-test c = λ ss g v s t. (c.in_ok-all.ensures.carried ss g v s t).apart

pub returns-clause-weighs : goal.returns-clause-weighs
returns-clause-weighs c =
    let p = c.args.program.now in
    omega (arith, c.in_ok-all.ensures.weighs, items_small p (length c.args.held.now + linear_globals p) (permissions_some p c.requires.rules))
