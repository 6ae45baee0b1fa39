use Rattle.civl_explain_command.proofs.OfCivl.{finds_all_of_civl as law}
use Rattle.civl_explain_command.proofs.laws.finds_all_of_civl.Goals as goal

pub returns : goal.returns
returns c = law
