use Rattle.civl_reduction.proofs.blocks.Standing.Threads.{calls_run_no_bodies, nothing_ahead_behind_turns}
use Rattle.civl_reduction.proofs.blocks.laws.bodies_turn_once.Goals as goal

pub returns-clause-turned : goal.returns-clause-turned
returns-clause-turned c = nothing_ahead_behind_turns

pub returns-clause-below : goal.returns-clause-below
returns-clause-below c = calls_run_no_bodies
