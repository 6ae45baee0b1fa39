use Rattle.std.proofs.Common.{◌≡◌}
use Rattle.civl_path_stories.specs.Paths.{place_among}
use Rattle.civl_path_stories.proofs.Counting.{from_here}
use Rattle.civl_path_stories.proofs.targets.place_among.Given as goal

abbrev pub invariant-loop-at : goal.invariant-loop-at
invariant-loop-at l = from_here l.step l.invariants l.at l.left ≡ place_among l.step l.fn.place l.invariants
