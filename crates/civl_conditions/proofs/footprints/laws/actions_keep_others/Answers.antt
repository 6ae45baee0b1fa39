use Rattle.civl_conditions.proofs.footprints.Keeping.{keeps_others}
use Rattle.civl_conditions.proofs.footprints.laws.actions_keep_others.Goals as goal

pub returns : goal.returns
returns c = keeps_others
