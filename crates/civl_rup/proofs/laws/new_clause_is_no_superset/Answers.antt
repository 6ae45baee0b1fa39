use Rattle.civl_rup.proofs.LawLemmas.{new_is_no_superset}
use Rattle.civl_rup.proofs.laws.new_clause_is_no_superset.Goals as goal

pub returns : goal.returns
returns c = new_is_no_superset
