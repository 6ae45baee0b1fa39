use Rattle.civl_reduction.proofs.staged.Stages.Reducing.{checked_reduce}
use Rattle.civl_reduction.proofs.staged.laws.reduces.Goals as goal

pub returns : goal.returns
returns c = checked_reduce c.checked.ensures.roots c.checked.ensures.permissions c.checked.ensures.movers
