use Rattle.std.proofs.Common.{drop, Contains, ◌⊎◌}
use Rattle.civl_firing.specs.declared.store.Store.{Store}
use Rattle.civl_reduction.specs.simulation.Refined.{with_values}
use Rattle.civl_reduction.specs.staged.Stops.{StopsAt}
use Rattle.civl_shadows.specs.Notes.{noted, progress_of}
use Rattle.civl_meaning.specs.Remaining.{rest_of}
use Rattle.civl_followed.proofs.choosing.push_stops.Given as goal

abbrev pub invariant-loop-at : goal.invariant-loop-at
invariant-loop-at l =
    (x : Store) → StopsAt (noted l.noting) (rest_of (drop l.from l.fn.rest)) (progress_of l.noting l.fn.progress) x
    → Contains l.offered.items (with_values l.noting.program.now l.noting.proc.now x l.noting.locals.now) ⊎ StopsAt (noted l.noting) (rest_of (drop l.at l.rest)) (progress_of l.noting l.progress) x
