use Rattle.civl_reduction.proofs.simulation.Preserved.Preserving.{blocks_sound}
use Rattle.civl_reduction.proofs.simulation.laws.blocks_are_sound.Goals as goal

pub returns : goal.returns
returns c = blocks_sound c.inside.ensures.safe c.checked_end_inside.ensures c.between_are_safe.ensures c.refined.ensures
