use Rattle.civl_reduction.proofs.simulation.Followed.Simulating.{layers_followed}
use Rattle.civl_reduction.proofs.simulation.laws.layers_are_followed.Goals as goal

pub returns : goal.returns
returns c = layers_followed c.checked.ensures.roots
