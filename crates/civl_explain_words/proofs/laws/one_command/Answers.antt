use Rattle.civl_explain_words.proofs.Once.{one_command}
use Rattle.civl_explain_words.proofs.laws.one_command.Goals as goal

pub returns : goal.returns
returns c = one_command
