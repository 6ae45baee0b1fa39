use Rattle.std.proofs.Common.{arith}
use Rattle.civl_tree.specs.Numbering.{OfInit, init_item}
use Rattle.civl_tree.proofs.Items.{items_are_numbered}
use Rattle.civl_places.proofs.Begun.{item_fits}
use Rattle.civl_places.proofs.formula.formula_at.Goals as goal

pub overflow_add-result : goal.overflow_add-result
overflow_add-result c =
    let p = c.args.program.now in
    omega (arith, item_fits p (init_item p) (OfInit p.init) ((items_are_numbered p 0).1))
