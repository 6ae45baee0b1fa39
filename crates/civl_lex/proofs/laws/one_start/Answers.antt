use Rattle.civl_lex.proofs.Texts.{start_once}
use Rattle.civl_lex.proofs.laws.one_start.Goals as goal

pub returns : goal.returns
returns c = start_once
