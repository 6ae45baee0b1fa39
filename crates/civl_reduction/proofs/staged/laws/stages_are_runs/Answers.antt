use Rattle.civl_reduction.proofs.staged.Stages.Running.{stages_are_runs}
use Rattle.civl_reduction.proofs.staged.laws.stages_are_runs.Goals as goal

pub returns : goal.returns
returns c = stages_are_runs c.checked.ensures.roots c.checked.ensures.permissions c.checked.ensures.movers
