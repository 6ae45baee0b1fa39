use Rattle.civl_meaning.proofs.Runs.{runs_are_made, runs_join}
use Rattle.civl_meaning.proofs.laws.runs.Goals as goal

pub returns-clause-made : goal.returns-clause-made
returns-clause-made c = runs_are_made

pub returns-clause-join : goal.returns-clause-join
returns-clause-join c = runs_join
