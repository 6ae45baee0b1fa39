use Rattle.civl_reduction.proofs.simulation.Followed.Simulating.{accepted_preserve}
use Rattle.civl_reduction.proofs.simulation.laws.accepted_preserve.Goals as goal

pub returns : goal.returns
returns c = accepted_preserve c.layers_are_sound.ensures
