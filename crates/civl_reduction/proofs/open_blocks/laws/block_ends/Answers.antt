use Rattle.civl_reduction.proofs.open_blocks.Ends.Concluding.{paths_do_not_fail, paths_conclude}
use Rattle.civl_reduction.proofs.open_blocks.laws.block_ends.Goals as goal

pub returns-clause-safe : goal.returns-clause-safe
returns-clause-safe c = paths_do_not_fail

pub returns-clause-conclude : goal.returns-clause-conclude
returns-clause-conclude c = paths_conclude
