use Rattle.civl_reduction.proofs.simulation.Between.Waiting.{between_are_safe}
use Rattle.civl_reduction.proofs.simulation.laws.between_are_safe.Goals as goal

pub returns : goal.returns
returns c = between_are_safe c.checked.ensures.permissions c.stages_are_runs.ensures c.inside.ensures.beside
