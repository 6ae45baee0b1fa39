use Rattle.civl_conditions.proofs.footprints.Existing.{uses_what_exists}
use Rattle.civl_conditions.proofs.footprints.laws.actions_use_what_exists.Goals as goal

pub returns : goal.returns
returns c = uses_what_exists
