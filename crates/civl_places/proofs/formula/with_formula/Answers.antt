use Rattle.std.proofs.Common.{arith}
use Rattle.civl_tree.specs.Numbering.{OfProc, proc_item}
use Rattle.civl_tree.proofs.Items.{items_are_numbered}
use Rattle.civl_places.specs.Starts.{item_start}
use Rattle.civl_places.specs.Formulas.{in_with}
use Rattle.civl_places.proofs.Begun.{item_fits}
use Rattle.civl_places.proofs.Places.{then_is, then_none}
use Rattle.civl_places.proofs.formula.with_formula.Goals as goal

pub get-requires : goal.get-requires
get-requires c = (rw c.in-Some.is at c.proc_token.ensures).0

pub in_with-requires : goal.in_with-requires
in_with-requires c =
    let p = c.args.program.now in
    let begins = (rw c.in-Some.is at c.proc_token.ensures).1 in
    omega (arith, begins, item_fits p _ (OfProc c.get.result.now) ((items_are_numbered p c.args.place).4 c.get.result.now c.get.ensures))

pub returns-in-Some : goal.returns-in-Some
returns-in-Some c =
    let p = c.args.program.now in
    then_is (λ at x. in_with at x c.args.number) p.procs c.args.place _ (item_start p (proc_item p c.args.place)) c.get.result.now _ c.get.ensures (rw c.in-Some.is at c.proc_token.ensures).1 c.in_with.ensures

pub returns-in-None : goal.returns-in-None
returns-in-None c = then_none _ c.args.program.now.procs c.args.place (rw c.in-None.is at c.proc_token.ensures)
