use Rattle.civl_firing.proofs.Soundness.{values_have_their_sorts}
use Rattle.civl_firing.proofs.laws.values_have_their_sorts.Goals as goal

pub returns : goal.returns
returns c = values_have_their_sorts
