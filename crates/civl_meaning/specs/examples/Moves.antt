-- Short ways to write moves, for the examples.
use Rattle.std.specs.Prelude.{ℕ, List, [], map}
use Rattle.civl_meaning.specs.declared.config.Move.{Move}

-- a move of this thread, with no choices
abbrev pub by : ℕ → Move
by thread = record { thread = thread; choices = [] }

-- the same of each of these
abbrev pub moves_of : List ℕ → List Move
moves_of threads = map by threads
