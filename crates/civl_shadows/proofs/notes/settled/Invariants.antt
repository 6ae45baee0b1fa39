use Rattle.std.proofs.Common.{◌≡◌, drop}
use Rattle.civl_reduction.specs.blocks.Cuts.{settled}
use Rattle.civl_meaning.specs.Remaining.{rest_of}
use Rattle.civl_shadows.proofs.notes.settled.Given as goal

abbrev pub invariant-loop-at : goal.invariant-loop-at
invariant-loop-at l = settled (rest_of l.fn.rest) ≡ settled (rest_of (drop l.at l.rest))
