use Rattle.civl_proofs.proofs.Outcomes.{one_answer}
use Rattle.civl_proofs.proofs.laws.one_answer.Goals as goal

pub returns : goal.returns
returns c = one_answer
