use Rattle.civl_reduction.proofs.open_blocks.Open.Opening.{blocks_open_at_entries, blocks_open_behind_yields, blocks_open_in_loops}
use Rattle.civl_reduction.proofs.open_blocks.Open.Choices.{choices_are_there}
use Rattle.civl_reduction.proofs.open_blocks.laws.blocks_open.Goals as goal

pub returns-clause-entries : goal.returns-clause-entries
returns-clause-entries c = blocks_open_at_entries

pub returns-clause-yields : goal.returns-clause-yields
returns-clause-yields c = blocks_open_behind_yields

pub returns-clause-loops : goal.returns-clause-loops
returns-clause-loops c = blocks_open_in_loops

pub returns-clause-choices : goal.returns-clause-choices
returns-clause-choices c = choices_are_there
