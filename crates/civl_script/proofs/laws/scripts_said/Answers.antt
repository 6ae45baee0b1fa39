use Rattle.civl_script.proofs.Working.{works_said}
use Rattle.civl_script.proofs.laws.scripts_said.Goals as goal

pub returns : goal.returns
returns c = works_said
