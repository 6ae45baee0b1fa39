use Rattle.std.proofs.Common.{◌≡◌, drop}
use Rattle.civl_reduction.specs.blocks.Challenged.{some_challenged}
use Rattle.civl_shadows.specs.Shadows.{done_in}
use Rattle.civl_shadows.proofs.challenging.some_challenged.Given as goal

abbrev pub invariant-loop-at : goal.invariant-loop-at
invariant-loop-at l = some_challenged l.plain.program l.layer l.store (done_in l.done) 0 l.fn.threads ≡ some_challenged l.plain.program l.layer l.store (done_in l.done) l.at (drop l.at l.threads)
