use Rattle.civl_tree.proofs.First.{refusal_is_first}
use Rattle.civl_tree.proofs.laws.rules.refusal_is_first.Goals as goal

pub returns : goal.returns
returns c = refusal_is_first
