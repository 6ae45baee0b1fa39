use Rattle.civl_reduction.proofs.blocks.Standing.Threads.{threads_turn_once}
use Rattle.civl_reduction.proofs.blocks.laws.threads_turn_once.Goals as goal

pub returns : goal.returns
returns c = threads_turn_once
