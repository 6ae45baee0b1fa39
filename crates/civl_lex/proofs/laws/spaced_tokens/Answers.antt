use Rattle.civl_lex.proofs.Spaces.{spaced_right}
use Rattle.civl_lex.proofs.laws.spaced_tokens.Goals as goal

pub returns : goal.returns
returns c = spaced_right
