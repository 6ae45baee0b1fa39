use Rattle.civl_firing.proofs.values.Zeros.{zeros_have_their_sorts}
use Rattle.civl_firing.proofs.values.laws.zeros_have_their_sorts.Goals as goal

pub returns : goal.returns
returns c = zeros_have_their_sorts
