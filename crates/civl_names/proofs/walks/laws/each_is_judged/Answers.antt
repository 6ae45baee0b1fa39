use Rattle.civl_names.proofs.walks.Judging.{each_is_judged}
use Rattle.civl_names.proofs.walks.laws.each_is_judged.Goals as goal

pub returns : goal.returns
returns g c = each_is_judged
