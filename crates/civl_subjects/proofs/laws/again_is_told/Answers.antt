use Rattle.civl_subjects.proofs.Again.{again_is_told}
use Rattle.civl_subjects.proofs.laws.again_is_told.Goals as goal

pub returns : goal.returns
returns c = again_is_told
