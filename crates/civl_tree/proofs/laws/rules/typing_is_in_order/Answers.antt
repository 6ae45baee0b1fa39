use Rattle.civl_tree.proofs.First.{typing_in_order}
use Rattle.civl_tree.proofs.laws.rules.typing_is_in_order.Goals as goal

pub returns : goal.returns
returns c = typing_in_order
