use Rattle.civl_cnf.proofs.Extending.{extends_same}
use Rattle.civl_blast.proofs.steps.step.Goals as goal

pub returns-else-marked-clause-extends : goal.returns-else-marked-clause-extends
returns-else-marked-clause-extends c = extends_same _
