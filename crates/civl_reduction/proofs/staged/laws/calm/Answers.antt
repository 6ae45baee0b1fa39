use Rattle.civl_reduction.proofs.staged.Calm.Outside.{starts_are_calm, steps_outside_keep_calm}
use Rattle.civl_reduction.proofs.staged.laws.calm.Goals as goal

pub returns-clause-start : goal.returns-clause-start
returns-clause-start c = starts_are_calm

pub returns-clause-outside : goal.returns-clause-outside
returns-clause-outside c = steps_outside_keep_calm c.checked.ensures.permissions c.checked.ensures.roots
