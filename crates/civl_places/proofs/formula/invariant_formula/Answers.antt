use Rattle.std.proofs.Common.{arith}
use Rattle.civl_tree.specs.Numbering.{OfInvariant}
use Rattle.civl_tree.proofs.Items.{items_are_numbered}
use Rattle.civl_places.proofs.Begun.{item_fits}
use Rattle.civl_places.proofs.Places.{map_none}
use Rattle.civl_places.proofs.formula.invariant_formula.Goals as goal

pub overflow_add-result : goal.overflow_add-result
overflow_add-result c =
    let p = c.args.program.now in
    let begins = (rw c.in-Some.is at c.invariant_token.ensures).1 in
    omega (arith, begins, item_fits p _ (OfInvariant c.get-invariant.result.now) ((items_are_numbered p c.args.place).2 c.get-invariant.result.now c.get-invariant.ensures))

pub returns-in-None : goal.returns-in-None
returns-in-None c = map_none _ c.args.program.now.invariants c.args.place (rw c.in-None.is at c.invariant_token.ensures)
