use Rattle.civl_meaning.proofs.Frames.{frames_are_depth}
use Rattle.civl_meaning.proofs.laws.frames.depths.Goals as goal

pub returns : goal.returns
returns c = frames_are_depth
