use Rattle.civl_units.proofs.LawLemmas.{run_decides}
use Rattle.civl_units.proofs.laws.complete_run_decides.Goals as goal

pub returns : goal.returns
returns c = run_decides
