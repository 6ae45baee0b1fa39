use Rattle.civl_conditions.proofs.footprints.Acting.{acts_alike}
use Rattle.civl_conditions.proofs.footprints.laws.actions_act_alike.Goals as goal

pub returns : goal.returns
returns c = acts_alike
