use Rattle.civl_rup.proofs.Entailing.{rup_entails}
use Rattle.civl_rup.proofs.laws.rup_clause_is_entailed.Goals as goal

pub returns : goal.returns
returns c = rup_entails
