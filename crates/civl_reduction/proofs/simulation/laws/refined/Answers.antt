use Rattle.civl_reduction.proofs.simulation.Refined.Joining.{nothing_anyhow, joins_anyhow}
use Rattle.civl_reduction.proofs.simulation.Refined.Concluding.{conclusions_refine}
use Rattle.civl_reduction.proofs.simulation.Carried.Steps.{carried_step, calls_carry, yields_carry}
use Rattle.civl_reduction.proofs.simulation.Carried.Blocks.{checked_are_refined}
use Rattle.civl_reduction.proofs.simulation.laws.refined.Goals as goal

pub returns : goal.returns
returns c =
    let keep = c.checked.ensures.permissions in
    let roots = c.checked.ensures.roots in
    checked_are_refined keep roots c.stages_are_runs.ensures c.inside.ensures.beside (calls_carry keep) (carried_step conclusions_refine joins_anyhow keep roots) (yields_carry conclusions_refine joins_anyhow nothing_anyhow keep roots) conclusions_refine joins_anyhow
