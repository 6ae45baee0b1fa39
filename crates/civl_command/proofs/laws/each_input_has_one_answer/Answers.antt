use Rattle.civl_command.proofs.Agreeing.{one_outcome}
use Rattle.civl_command.proofs.Answering.{some_outcome}
use Rattle.civl_command.proofs.laws.each_input_has_one_answer.Goals as goal

pub returns : goal.returns
returns c = record { some = some_outcome; one = one_outcome }
