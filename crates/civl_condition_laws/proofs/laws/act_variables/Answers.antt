use Rattle.std.specs.Fmt.{digits}
use Rattle.std.proofs.Common.{refl}
use Rattle.civl_conditions.specs.Variables.{variables}
use Rattle.civl_condition_laws.proofs.laws.act_variables.Goals as goal

pub returns : goal.returns
unfolding digits variables
returns c = refl
