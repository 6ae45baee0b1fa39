use Rattle.std.proofs.Common.{◌≡◌, drop}
use Rattle.civl_reduction.specs.blocks.Blocks.{at_yield}
use Rattle.civl_meaning.specs.Remaining.{rest_of}
use Rattle.civl_shadows.proofs.notes.at_yield.Given as goal

abbrev pub invariant-loop-at : goal.invariant-loop-at
invariant-loop-at l = at_yield (rest_of l.fn.rest) ≡ at_yield (rest_of (drop l.at l.rest))
