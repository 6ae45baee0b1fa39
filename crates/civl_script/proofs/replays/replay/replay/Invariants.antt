use Rattle.std.proofs.Common.{◌≡◌, ◌+◌, ◌≤◌, length, drop}
use Rattle.civl_meaning.specs.Run.{run_of}
use Rattle.civl_script.proofs.replays.replay.replay.Given as goal

abbrev pub invariant-loop-chosen : goal.invariant-loop-chosen
invariant-loop-chosen l = record {
  left : run_of l.plain (drop l.chosen-index l.moves) l.moved l.config ≡ run_of l.plain l.moves 0 l.initial.config;
  count : l.moved ≡ l.chosen-index;
  few : length l.config.threads ≤ length l.initial.config.threads + l.chosen-index;
}
