use Rattle.civl_script.proofs.Counting.{text_numbers, script_numbers, script_counts}
use Rattle.civl_script.proofs.laws.numbered.Goals as goal

pub returns-clause-programs : goal.returns-clause-programs
returns-clause-programs c = text_numbers

pub returns-clause-scripts : goal.returns-clause-scripts
returns-clause-scripts c = script_numbers

pub returns-clause-counted : goal.returns-clause-counted
returns-clause-counted c = script_counts
