-- What is told of schedules of the flag programs.
use Rattle.std.specs.Prelude.{◌≡◌, true, false, List, [], ◌∷◌}
use Rattle.civl_meaning.specs.Layers.{lowest, topmost}
use Rattle.civl_meaning.specs.Step.{start}
use Rattle.civl_firing.specs.examples.Written.{bool}
use Rattle.civl_meaning.specs.examples.Moves.{moves_of}
use Rattle.civl_meaning.specs.examples.Flag.{flag, spawning, flag_is}
use Rattle.civl_history.specs.declared.changes.Changed.{Changed}
use Rattle.civl_history.specs.declared.moves.StepKind.TheVariants.{Acts, Enters, Ends, Spawns}
use Rattle.civl_history.specs.declared.stand.Stand.TheVariants.{Begins, Before, Leaves}
use Rattle.civl_history.specs.History.{history}

-- the flag is set
abbrev setting : List Changed
setting = (record { place = 0; before = bool false; after = bool true }) ∷ []

-- the thread enters the body, the action is called, and the `commit` behind it passed over: the body's end is reached.
-- The fourth move isn't made, and none behind it is told
abbrev pub LowFlag : Type 0
LowFlag =
    history (lowest flag) (start (lowest flag) (flag_is false)) (moves_of (0 ∷ 0 ∷ 0 ∷ 0 ∷ 0 ∷ []))
    ≡ (record { thread = 0; stood = Begins 0; kind = Enters 0; globals = []; locals = [] })
    ∷ (record { thread = 0; stood = Before 0 0; kind = Acts; globals = setting; locals = [] })
    ∷ (record { thread = 0; stood = Leaves 0; kind = Ends; globals = []; locals = [] })
    ∷ []

-- in the topmost program the thread's first call is one of an action
abbrev pub TopFlag : Type 0
TopFlag =
    history (topmost flag) (start (topmost flag) (flag_is false)) (moves_of (0 ∷ 0 ∷ []))
    ≡ (record { thread = 0; stood = Begins 0; kind = Acts; globals = setting; locals = [] }) ∷ []

-- a move of a thread that isn't there ends what is told, though the next could be made
abbrev pub OtherThread : Type 0
OtherThread =
    history (lowest flag) (start (lowest flag) (flag_is false)) (moves_of (0 ∷ 1 ∷ 0 ∷ []))
    ≡ (record { thread = 0; stood = Begins 0; kind = Enters 0; globals = []; locals = [] }) ∷ []

abbrev pub NoMoves : Type 0
NoMoves = history (lowest flag) (start (lowest flag) (flag_is false)) [] ≡ []

-- a thread is spawned, and has the next number
abbrev pub Spawning : Type 0
Spawning =
    history (topmost spawning) (start (topmost spawning) (flag_is false)) (moves_of (0 ∷ 0 ∷ 1 ∷ 0 ∷ []))
    ≡ (record { thread = 0; stood = Begins 1; kind = Enters 1; globals = []; locals = [] })
    ∷ (record { thread = 0; stood = Before 1 0; kind = Spawns 1; globals = []; locals = [] })
    ∷ (record { thread = 1; stood = Begins 0; kind = Acts; globals = setting; locals = [] })
    ∷ (record { thread = 0; stood = Before 1 1; kind = Spawns 2; globals = []; locals = [] })
    ∷ []
