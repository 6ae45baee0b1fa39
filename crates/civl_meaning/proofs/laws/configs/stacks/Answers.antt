use Rattle.civl_meaning.proofs.Stacking.{step_keeps_stacks, run_keeps_stacks}
use Rattle.civl_meaning.proofs.laws.configs.stacks.Goals as goal

pub returns-clause-step : goal.returns-clause-step
returns-clause-step c = step_keeps_stacks

pub returns-clause-run : goal.returns-clause-run
returns-clause-run c = run_keeps_stacks
