use Rattle.civl_blast.proofs.Telling.{bits_give_values, places_decide, satisfiable_where_true}
use Rattle.civl_blast.proofs.laws.satisfiability.Goals as goal

pub returns-clause-values : goal.returns-clause-values
returns-clause-values c = bits_give_values

pub returns-clause-exact : goal.returns-clause-exact
returns-clause-exact c = satisfiable_where_true

pub returns-clause-places : goal.returns-clause-places
returns-clause-places c = places_decide
