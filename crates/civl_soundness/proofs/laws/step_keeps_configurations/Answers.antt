use Rattle.civl_soundness.proofs.Soundness.{step_is_of}
use Rattle.civl_soundness.proofs.laws.step_keeps_configurations.Goals as goal

pub returns : goal.returns
returns c = step_is_of
