use Rattle.civl_annotations.proofs.Filling.{filled_is_bare}
use Rattle.civl_annotations.proofs.Having.{filled_has_found}
use Rattle.civl_annotations.proofs.Restoring.{filled_back, annotations_tell}
use Rattle.civl_annotations.proofs.laws.filled_alike.Goals as goal

pub returns-clause-bare : goal.returns-clause-bare
returns-clause-bare c = filled_is_bare

pub returns-clause-found : goal.returns-clause-found
returns-clause-found c = filled_has_found

pub returns-clause-back : goal.returns-clause-back
returns-clause-back c = filled_back

pub returns-clause-tell : goal.returns-clause-tell
returns-clause-tell c = annotations_tell
