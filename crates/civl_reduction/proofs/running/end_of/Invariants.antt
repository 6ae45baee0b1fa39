use Rattle.std.proofs.Common.{◌≡◌, ◌+◌, ◌≤◌, length, drop}
use Rattle.civl_meaning.specs.Run.{run_of}
use Rattle.civl_reduction.specs.inner.Ends.{end_by}
use Rattle.civl_reduction.proofs.running.end_of.Given as goal

abbrev pub invariant-loop-chosen : goal.invariant-loop-chosen
invariant-loop-chosen l = record {
  left : end_by (run_of l.plain (drop l.chosen-index l.moves) l.chosen-index l.config) ≡ end_by (run_of l.plain l.moves 0 l.from);
  few : length l.config.threads ≤ length l.from.threads + l.chosen-index;
}
