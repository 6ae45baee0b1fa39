use Rattle.civl_reduction.proofs.staged.Pausing.Cutting.{frames_stand_at_cuts}
use Rattle.civl_reduction.proofs.staged.Pausing.Apart.{pauses_are_apart}
use Rattle.civl_reduction.proofs.staged.laws.pauses.Goals as goal

pub returns-clause-cuts : goal.returns-clause-cuts
returns-clause-cuts c = frames_stand_at_cuts

pub returns-clause-apart : goal.returns-clause-apart
returns-clause-apart c = pauses_are_apart c.checked.ensures.permissions
