use Rattle.civl_reduction.proofs.simulation.Preserved.Preserving.{programs_preserve}
use Rattle.civl_reduction.proofs.simulation.laws.accepted_programs_preserve.Goals as goal

pub returns : goal.returns
returns c = programs_preserve c.accepted_preserve.ensures c.blocks_are_sound.ensures
