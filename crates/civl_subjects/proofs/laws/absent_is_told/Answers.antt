use Rattle.civl_subjects.proofs.Absences.{absent_is_told}
use Rattle.civl_subjects.proofs.laws.absent_is_told.Goals as goal

pub returns : goal.returns
returns c = absent_is_told
