use Rattle.civl_tree.proofs.Items as law
use Rattle.civl_tree.proofs.laws.spelling.items_are_in_text_order.Goals as goal

pub returns : goal.returns
returns c = law.items_are_in_text_order
