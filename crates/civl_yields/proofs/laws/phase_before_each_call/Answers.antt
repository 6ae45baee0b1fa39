use Rattle.civl_yields.proofs.Beside.{phase_before_each_call}
use Rattle.civl_yields.proofs.laws.phase_before_each_call.Goals as goal

pub returns : goal.returns
returns c = phase_before_each_call
