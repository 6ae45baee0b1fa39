use Rattle.civl_reduction.proofs.simulation.Refined.Concluding.{conclusions_refine}
use Rattle.civl_reduction.proofs.simulation.laws.conclusions_refine.Goals as goal

pub returns : goal.returns
returns c = conclusions_refine
