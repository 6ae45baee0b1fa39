use Rattle.civl_lex.proofs.Texts.{answer_once}
use Rattle.civl_lex.proofs.laws.one_answer.Goals as goal

pub returns : goal.returns
returns c = answer_once
