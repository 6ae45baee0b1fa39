use Rattle.std.proofs.Common.{take}
use Rattle.civl_script.specs.Schedules.{AreMovesOf}
use Rattle.civl_script.proofs.schedule.moves.Given as goal

abbrev pub invariant-loop-at : goal.invariant-loop-at
invariant-loop-at l = AreMovesOf (take l.at l.steps) l.moves.items
