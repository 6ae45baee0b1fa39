use Rattle.civl_conditions.proofs.footprints.Seeing.{one_value_in}
use Rattle.civl_conditions.proofs.footprints.laws.values_agree.Goals as goal

pub returns : goal.returns
returns c = λ others s t e agree. one_value_in others s t agree e
