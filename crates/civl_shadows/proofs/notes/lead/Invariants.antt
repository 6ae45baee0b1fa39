use Rattle.std.proofs.Common.{◌≡◌, drop}
use Rattle.civl_conditions.specs.paths.Runs.{led}
use Rattle.civl_shadows.specs.Notes.{noted, progress_of}
use Rattle.civl_meaning.specs.Remaining.{rest_of}
use Rattle.civl_shadows.proofs.notes.lead.Given as goal

abbrev pub invariant-loop-at : goal.invariant-loop-at
invariant-loop-at l = led (noted l.noting) (rest_of (drop l.at l.rest)) (progress_of l.noting l.progress) ≡ led (noted l.noting) (rest_of l.fn.rest) (progress_of l.noting l.fn.progress)
