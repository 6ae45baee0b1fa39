use Rattle.civl_cdcl.proofs.Counting.{budget_small}
use Rattle.civl_cdcl.proofs.laws.spent_budget_is_small.Goals as goal

pub returns : goal.returns
returns c = budget_small
