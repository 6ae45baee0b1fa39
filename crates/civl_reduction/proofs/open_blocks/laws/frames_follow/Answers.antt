use Rattle.civl_reduction.proofs.open_blocks.Following.Frames.{frames_follow, frames_arrive}
use Rattle.civl_reduction.proofs.open_blocks.laws.frames_follow.Goals as goal

pub returns-clause-follow : goal.returns-clause-follow
returns-clause-follow c = frames_follow

pub returns-clause-arrive : goal.returns-clause-arrive
returns-clause-arrive c = frames_arrive
