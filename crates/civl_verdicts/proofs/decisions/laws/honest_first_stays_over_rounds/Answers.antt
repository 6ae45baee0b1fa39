use Rattle.civl_verdicts.proofs.decisions.Rounds.{first_stays_over}
use Rattle.civl_verdicts.proofs.decisions.laws.honest_first_stays_over_rounds.Goals as goal

pub returns : goal.returns
returns g c = first_stays_over _
