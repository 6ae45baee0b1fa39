use Rattle.civl_yields.proofs.Beside.{each_is_inside}
use Rattle.civl_yields.proofs.laws.each_is_inside.Goals as goal

pub returns : goal.returns
returns c = each_is_inside
