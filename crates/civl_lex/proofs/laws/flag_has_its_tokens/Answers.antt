use Rattle.std.proofs.Common.{lit<}
use Rattle.std.specs.Fmt.{digits}
use Rattle.civl_lex.specs.Laws.{flag_text}
use Rattle.civl_lex.proofs.Readings.{answer_right}
use Rattle.civl_lex.proofs.laws.flag_has_its_tokens.Goals as goal

pub returns : goal.returns
unfolding digits
returns c = answer_right 400 flag_text (lit< tt)
