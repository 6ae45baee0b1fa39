use Rattle.civl_marks.proofs.Exchanging.{still_violated as still}
use Rattle.civl_marks.proofs.laws.still_violated.Goals as goal

pub returns : goal.returns
returns c = still
