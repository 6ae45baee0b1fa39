-- What schedules of the flag programs give.
use Rattle.std.specs.Prelude.{◌≡◌, true, false, [], ◌∷◌, Some, None}
use Rattle.civl_meaning.specs.declared.config.Stepped.TheVariants.{Ended, Failing, NoThread}
use Rattle.civl_meaning.specs.Layers.{lowest, topmost}
use Rattle.civl_meaning.specs.examples.Moves.{moves_of}
use Rattle.civl_meaning.specs.examples.Flag.{flag, gated, flag_is}
use Rattle.civl_script.specs.replays.Trace.{trace_of}

-- the call and the action: the flag is set
abbrev pub BeforeTheReturn : Type 0
BeforeTheReturn =
    trace_of (lowest flag) (flag_is false) (moves_of (0 ∷ 0 ∷ []))
    ≡ record { moved = 2; stopped = None; failing = None; end = flag_is true }

-- the call, the action and the return; the fourth move and the fifth find the thread at its end, and aren't counted
abbrev pub AfterTheEnd : Type 0
AfterTheEnd =
    trace_of (lowest flag) (flag_is false) (moves_of (0 ∷ 0 ∷ 0 ∷ 0 ∷ 0 ∷ []))
    ≡ record { moved = 3; stopped = Some Ended; failing = None; end = flag_is true }

abbrev pub NoMoves : Type 0
NoMoves =
    trace_of (lowest flag) (flag_is false) [] ≡ record { moved = 0; stopped = None; failing = None; end = flag_is false }

abbrev pub AtTheTop : Type 0
AtTheTop =
    trace_of (topmost flag) (flag_is false) (moves_of (0 ∷ 0 ∷ []))
    ≡ record { moved = 1; stopped = Some Ended; failing = None; end = flag_is true }

-- with a gate the second move finds it false: the thread fails, and the flag stays
abbrev pub GateStops : Type 0
GateStops =
    trace_of (lowest gated) (flag_is false) (moves_of (0 ∷ 0 ∷ []))
    ≡ record { moved = 1; stopped = Some Failing; failing = Some 0; end = flag_is false }

-- a move that isn't made ends the run, though the next one could be made
abbrev pub OtherThread : Type 0
OtherThread =
    trace_of (lowest flag) (flag_is false) (moves_of (0 ∷ 1 ∷ 0 ∷ []))
    ≡ record { moved = 1; stopped = Some NoThread; failing = None; end = flag_is false }
