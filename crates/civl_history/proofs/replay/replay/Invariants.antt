use Rattle.std.proofs.Common.{◌≡◌, ◌+◌, ◌≤◌, ◌++◌, length, drop}
use Rattle.civl_meaning.specs.Run.{run_of}
use Rattle.civl_history.specs.History.{history}
use Rattle.civl_history.proofs.replay.replay.Given as goal

abbrev pub invariant-loop-chosen : goal.invariant-loop-chosen
invariant-loop-chosen l = record {
  left : run_of l.plain (drop l.chosen-index l.moves) (length l.told.items) l.config ≡ run_of l.plain l.moves 0 l.initial.config;
  told : l.told.items ++ history l.plain l.config (drop l.chosen-index l.moves) ≡ history l.plain l.initial.config l.moves;
  few : length l.config.threads ≤ length l.initial.config.threads + l.chosen-index;
}
