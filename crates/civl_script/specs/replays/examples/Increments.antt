-- What schedules of the increments give.
use Rattle.std.specs.Prelude.{◌≡◌, [], ◌∷◌, Some, None}
use Rattle.civl_meaning.specs.declared.config.Stepped.TheVariants as answer
use Rattle.civl_meaning.specs.Layers.{lowest, topmost}
use Rattle.civl_firing.specs.examples.Written.{word, holding}
use Rattle.civl_meaning.specs.examples.Moves.{moves_of}
use Rattle.civl_meaning.specs.examples.Increments.{increments}
use Rattle.civl_script.specs.replays.Trace.{trace_of}

-- one increment is lost, and the second thread stands before a false assert
abbrev pub LowTrace : Type 0
LowTrace =
    trace_of (lowest increments) (holding (word 8 0 ∷ [])) (moves_of (0 ∷ 0 ∷ 0 ∷ 1 ∷ 1 ∷ 1 ∷ 1 ∷ 1 ∷ 1 ∷ 1 ∷ 1 ∷ 1 ∷ 0 ∷ 1 ∷ []))
    ≡ record { moved = 14; stopped = None; failing = Some 1; end = holding (word 8 1 ∷ []) }

abbrev pub TopTrace : Type 0
TopTrace =
    trace_of (topmost increments) (holding (word 8 0 ∷ [])) (moves_of (1 ∷ 1 ∷ 1 ∷ 0 ∷ 0 ∷ 1 ∷ 1 ∷ []))
    ≡ record { moved = 7; stopped = None; failing = None; end = holding (word 8 3 ∷ []) }

abbrev pub NoSuchThread : Type 0
NoSuchThread =
    trace_of (lowest increments) (holding (word 8 0 ∷ [])) (moves_of (2 ∷ []))
    ≡ record { moved = 0; stopped = Some answer.NoThread; failing = None; end = holding (word 8 0 ∷ []) }
