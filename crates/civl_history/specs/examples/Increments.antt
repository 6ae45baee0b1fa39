-- What is told of schedules of the increments.
use Rattle.std.specs.Prelude.{◌≡◌, ℕ, List, [], ◌∷◌}
use Rattle.civl_meaning.specs.Layers.{lowest, topmost}
use Rattle.civl_meaning.specs.Step.{start}
use Rattle.civl_firing.specs.examples.Written.{word, holding}
use Rattle.civl_meaning.specs.examples.Moves.{moves_of}
use Rattle.civl_meaning.specs.examples.Increments.{increments, low_middle, low_later}
use Rattle.civl_history.specs.declared.changes.Changed.{Changed}
use Rattle.civl_history.specs.declared.moves.MadeMove.{MadeMove}
use Rattle.civl_history.specs.declared.moves.StepKind.{StepKind}
use Rattle.civl_history.specs.declared.moves.StepKind.TheVariants.{Goes, Acts, Enters, Returns}
use Rattle.civl_history.specs.declared.stand.Stand.{Stand}
use Rattle.civl_history.specs.declared.stand.Stand.TheVariants.{Begins, Before, Leaves}
use Rattle.civl_history.specs.History.{history}

-- the one value at this place went from this number to that
abbrev pub from_to : ℕ → ℕ → List Changed
from_to n m = (record { place = 0; before = word 8 n; after = word 8 m }) ∷ []

-- a move that changed no value
abbrev pub unchanged : ℕ → Stand → StepKind → MadeMove
unchanged thread stood kind = record { thread = thread; stood = stood; kind = kind; globals = []; locals = [] }

-- a call of an action that changed a global, or a local
abbrev pub wrote : ℕ → Stand → List Changed → MadeMove
wrote thread stood globals = record { thread = thread; stood = stood; kind = Acts; globals = globals; locals = [] }

abbrev pub read : ℕ → Stand → List Changed → MadeMove
read thread stood locals = record { thread = thread; stood = stood; kind = Acts; globals = []; locals = locals }

-- the first thread loads 0, which its local held before; the second increments once, and is back in its own body
abbrev pub LowBegins : Type 0
LowBegins =
    history (lowest increments) (start (lowest increments) (holding (word 8 0 ∷ []))) (moves_of (0 ∷ 0 ∷ 0 ∷ 1 ∷ 1 ∷ 1 ∷ 1 ∷ 1 ∷ []))
    ≡ unchanged 0 (Begins 1) (Enters 1)
    ∷ unchanged 0 (Before 1 0) (Enters 0)
    ∷ unchanged 0 (Before 0 0) Acts
    ∷ unchanged 1 (Begins 2) (Enters 2)
    ∷ unchanged 1 (Before 2 0) (Enters 0)
    ∷ unchanged 1 (Before 0 0) Acts
    ∷ wrote 1 (Before 0 2) (from_to 0 1)
    ∷ unchanged 1 (Leaves 0) (Returns 2)
    ∷ []

-- and again: it loads 1 and stores 2; the `yield` between them is passed over
abbrev pub LowGoesOn : Type 0
LowGoesOn =
    history (lowest increments) low_middle (moves_of (1 ∷ 1 ∷ 1 ∷ []))
    ≡ unchanged 1 (Before 2 1) (Enters 0)
    ∷ read 1 (Before 0 0) (from_to 0 1)
    ∷ wrote 1 (Before 0 2) (from_to 1 2)
    ∷ []

-- the first thread stores 1, so that an increment is lost, and the second reads 1. It stands before a false assert then, and
-- its next move isn't made
abbrev pub LowEnds : Type 0
LowEnds =
    history (lowest increments) low_later (moves_of (1 ∷ 0 ∷ 1 ∷ 1 ∷ 0 ∷ []))
    ≡ unchanged 1 (Leaves 0) (Returns 2)
    ∷ wrote 0 (Before 0 2) (from_to 2 1)
    ∷ read 1 (Before 2 2) (from_to 0 1)
    ∷ []

-- in the topmost program the increments are actions, and none is lost
abbrev pub Top : Type 0
Top =
    history (topmost increments) (start (topmost increments) (holding (word 8 0 ∷ []))) (moves_of (1 ∷ 1 ∷ 1 ∷ 0 ∷ 0 ∷ 1 ∷ 1 ∷ []))
    ≡ unchanged 1 (Begins 2) (Enters 2)
    ∷ wrote 1 (Before 2 0) (from_to 0 1)
    ∷ wrote 1 (Before 2 1) (from_to 1 2)
    ∷ unchanged 0 (Begins 1) (Enters 1)
    ∷ wrote 0 (Before 1 0) (from_to 2 3)
    ∷ read 1 (Before 2 2) (from_to 0 3)
    ∷ unchanged 1 (Before 2 3) Goes
    ∷ []
