use Rattle.civl_yields.proofs.Beside.{phase_before_each}
use Rattle.civl_yields.proofs.laws.phase_before_each.Goals as goal

pub returns : goal.returns
returns c = phase_before_each
