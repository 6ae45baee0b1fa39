use Rattle.civl_firing.proofs.Agreeing.{truth_is_value}
use Rattle.civl_firing.proofs.laws.truth_is_value.Goals as goal

pub returns : goal.returns
returns c = truth_is_value
