use Rattle.std.proofs.Common.{◌≡◌, ◌++◌, drop}
use Rattle.civl_conditions.specs.Steps.{each_at}
use Rattle.civl_goals.specs.Listed.{noted_of, noted}
use Rattle.civl_goals.proofs.listing.noted.Given as goal

abbrev pub invariant-loop-place : goal.invariant-loop-place
invariant-loop-place l = l.found.items ++ each_at (noted_of l.program l.outline) l.place (drop l.place l.procs) ≡ noted l.program l.outline
