use Rattle.civl_printer.proofs.Reading.{again}
use Rattle.civl_printer.proofs.laws.reads_back.Goals as goal

pub returns : goal.returns
returns c = again
