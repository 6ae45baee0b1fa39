use Rattle.civl_rup.proofs.LawLemmas.{run_shows_new}
use Rattle.civl_rup.proofs.laws.complete_run_shows_new.Goals as goal

pub returns : goal.returns
returns c = run_shows_new
