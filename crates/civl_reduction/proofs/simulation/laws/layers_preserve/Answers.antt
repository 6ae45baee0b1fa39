use Rattle.civl_reduction.proofs.simulation.Preserved.Preserving.{layers_preserve}
use Rattle.civl_reduction.proofs.simulation.laws.layers_preserve.Goals as goal

pub returns : goal.returns
returns c = layers_preserve c.layers_are_sound.ensures c.blocks_are_sound.ensures
