use Rattle.civl_terms.proofs.foldings.Keeping.{twos_keep_values}
use Rattle.civl_terms.proofs.foldings.Choices.{picks_keep_values}
use Rattle.civl_terms.proofs.foldings.Rows.{ones_keep_values, gets_keep_values, sets_keep_values, others_keep_values}
use Rattle.civl_terms.proofs.foldings.laws.foldings_keep_values.Goals as goal

pub returns-clause-twos : goal.returns-clause-twos
returns-clause-twos c = twos_keep_values

pub returns-clause-ones : goal.returns-clause-ones
returns-clause-ones c = ones_keep_values

pub returns-clause-picks : goal.returns-clause-picks
returns-clause-picks c = picks_keep_values

pub returns-clause-gets : goal.returns-clause-gets
returns-clause-gets c = gets_keep_values

pub returns-clause-sets : goal.returns-clause-sets
returns-clause-sets c = sets_keep_values

pub returns-clause-others : goal.returns-clause-others
returns-clause-others c = others_keep_values
