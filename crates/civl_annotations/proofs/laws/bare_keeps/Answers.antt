use Rattle.civl_annotations.proofs.Keeping.{bare_has_shape, bare_keeps_numbers, bare_is_bare}
use Rattle.civl_annotations.proofs.laws.bare_keeps.Goals as goal

pub returns-clause-shape : goal.returns-clause-shape
returns-clause-shape c = bare_has_shape

pub returns-clause-numbers : goal.returns-clause-numbers
returns-clause-numbers c = bare_keeps_numbers

pub returns-clause-again : goal.returns-clause-again
returns-clause-again c = bare_is_bare
