use Rattle.std.proofs.Common.{refl}
use Rattle.civl_subjects.proofs.Computing.{computing}
use Rattle.civl_subjects.proofs.laws.names_are_told.Goals as goal

pub returns : goal.returns
returns c = (refl, simp computing, simp computing, simp computing)
