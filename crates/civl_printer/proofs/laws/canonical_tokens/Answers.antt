use Rattle.civl_lex.proofs.Spaces.{spaced_right}
use Rattle.civl_printer.proofs.Reading.{canonical_tokens}
use Rattle.civl_printer.proofs.laws.canonical_tokens.Goals as goal

pub returns : goal.returns
returns c = canonical_tokens spaced_right
