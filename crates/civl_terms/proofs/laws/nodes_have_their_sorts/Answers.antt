use Rattle.civl_terms.proofs.Soundness.{nodes_have_their_sorts}
use Rattle.civl_terms.proofs.laws.nodes_have_their_sorts.Goals as goal

pub returns : goal.returns
returns c = nodes_have_their_sorts
