use Rattle.civl_reduction.proofs.simulation.Followed.Simulating.{layers_sound}
use Rattle.civl_reduction.proofs.simulation.laws.layers_are_sound.Goals as goal

pub returns : goal.returns
returns c = layers_sound c.checked.ensures.roots c.reduces.ensures
