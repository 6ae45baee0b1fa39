use Rattle.civl_subjects.proofs.Hiding.{hidden_is_told}
use Rattle.civl_subjects.proofs.laws.hidden_is_told.Goals as goal

pub returns : goal.returns
returns c = hidden_is_told
