use Rattle.civl_subjects.proofs.Computing.{computing}
use Rattle.civl_subjects.proofs.laws.yields_are_told.Goals as goal

pub returns : goal.returns
returns c = (simp computing, simp computing, simp computing, simp computing, simp computing)
