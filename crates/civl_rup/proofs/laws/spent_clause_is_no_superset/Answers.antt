use Rattle.civl_rup.proofs.LawLemmas.{spent_is_no_superset}
use Rattle.civl_rup.proofs.laws.spent_clause_is_no_superset.Goals as goal

pub returns : goal.returns
returns c = spent_is_no_superset
