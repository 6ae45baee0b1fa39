use Rattle.civl_lex.proofs.Readings.{some_answer}
use Rattle.civl_lex.proofs.laws.some_answer.Goals as goal

pub returns : goal.returns
returns c = some_answer
