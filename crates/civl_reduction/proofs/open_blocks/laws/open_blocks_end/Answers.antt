use Rattle.civl_reduction.proofs.open_blocks.Open.Ending.{open_blocks_conclude, open_blocks_go_round}
use Rattle.civl_reduction.proofs.open_blocks.Open.Cuts.{cuts_ahead_are_cuts}
use Rattle.civl_reduction.proofs.open_blocks.laws.open_blocks_end.Goals as goal

pub returns-clause-conclude : goal.returns-clause-conclude
returns-clause-conclude c = open_blocks_conclude

pub returns-clause-round : goal.returns-clause-round
returns-clause-round c = open_blocks_go_round

pub returns-clause-cuts : goal.returns-clause-cuts
returns-clause-cuts c = cuts_ahead_are_cuts
