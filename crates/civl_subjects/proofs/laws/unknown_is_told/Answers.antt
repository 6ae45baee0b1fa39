use Rattle.civl_subjects.proofs.Unknowns.{unknown_is_told}
use Rattle.civl_subjects.proofs.laws.unknown_is_told.Goals as goal

pub returns : goal.returns
returns c = unknown_is_told
