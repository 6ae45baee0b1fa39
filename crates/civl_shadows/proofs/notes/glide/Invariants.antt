use Rattle.std.proofs.Common.{◌≡◌, drop}
use Rattle.civl_reduction.specs.blocks.Shadow.{glided}
use Rattle.civl_shadows.specs.Notes.{noted, progress_of}
use Rattle.civl_meaning.specs.Remaining.{rest_of}
use Rattle.civl_shadows.proofs.notes.glide.Given as goal

abbrev pub invariant-loop-at : goal.invariant-loop-at
invariant-loop-at l = glided (noted l.noting) (rest_of (drop l.at l.rest)) (progress_of l.noting l.progress) ≡ glided (noted l.noting) (rest_of (drop l.from l.fn.rest)) (progress_of l.noting l.fn.progress)
