use Rattle.civl_linear.proofs.Examples.{examples}
use Rattle.civl_subjects.proofs.Computing.{computing}
use Rattle.civl_subjects.proofs.laws.linear_is_told.Goals as goal

pub returns : goal.returns
returns c = (simp examples, simp examples, simp examples, simp computing)
