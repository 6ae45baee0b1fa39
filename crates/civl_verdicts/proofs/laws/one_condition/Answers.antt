use Rattle.civl_verdicts.proofs.Excluding.{same_place}
use Rattle.civl_verdicts.proofs.laws.one_condition.Goals as goal

pub returns : goal.returns
returns c = λ program budget other first second one two. same_place program first.condition second.condition one.0.0 two.0.0 first.values second.values one.0.1 two.0.1 one.1 two.1
