use Rattle.civl_yields.proofs.verify.Admitting.{static_in_order}
use Rattle.civl_yields.proofs.verify.laws.static_rules_are_in_order.Goals as goal

pub returns : goal.returns
returns c = static_in_order
