use Rattle.civl_reduction.proofs.staged.Chains.Yielding.{yields_step}
use Rattle.civl_reduction.proofs.staged.laws.yields.Goals as goal

pub returns : goal.returns
returns c = yields_step c.checked.ensures.permissions c.checked.ensures.roots
