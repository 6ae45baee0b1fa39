use Rattle.civl_explain_command.proofs.AsCivl.{finds_as_civl as law}
use Rattle.civl_explain_command.proofs.laws.finds_as_civl.Goals as goal

pub returns : goal.returns
returns c = law
