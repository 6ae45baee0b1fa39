use Rattle.civl_script.proofs.Working.{works_written}
use Rattle.civl_script.proofs.laws.entries_written.Goals as goal

pub returns : goal.returns
returns c = works_written
