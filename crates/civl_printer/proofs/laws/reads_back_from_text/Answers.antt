use Rattle.civl_printer.proofs.Reading.{again_from_text}
use Rattle.civl_printer.proofs.laws.reads_back_from_text.Goals as goal

pub returns : goal.returns
returns c = again_from_text
