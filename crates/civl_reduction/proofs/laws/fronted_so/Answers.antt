use Rattle.civl_reduction.proofs.Placing.{chosen_come_first, fronted_run_alike, fronted_fail}
use Rattle.civl_reduction.proofs.laws.fronted_so.Goals as goal

pub returns-clause-order : goal.returns-clause-order
returns-clause-order c = chosen_come_first

pub returns-clause-runs : goal.returns-clause-runs
returns-clause-runs c = fronted_run_alike

pub returns-clause-fails : goal.returns-clause-fails
returns-clause-fails c = fronted_fail
