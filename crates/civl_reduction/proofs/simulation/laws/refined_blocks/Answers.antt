use Rattle.civl_reduction.proofs.simulation.Refined.Joining.{nothing_refined, refined_join}
use Rattle.civl_reduction.proofs.simulation.laws.refined_blocks.Goals as goal

pub returns-clause-nothing : goal.returns-clause-nothing
returns-clause-nothing c = nothing_refined

pub returns-clause-join : goal.returns-clause-join
returns-clause-join c = refined_join
