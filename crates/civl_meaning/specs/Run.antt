-- Part of the claim: docs/CLAIM.md.
-- Interleavings: lists of moves.
use Rattle.std.specs.Prelude.{ℕ, ◌+◌, ◌≡◌, ◌↔◌, Bool, true, false, List, [], ◌∷◌, ◌++◌, length, Option, None, Some, if◌then◌else◌}
use Rattle.civl_meaning.specs.declared.config.Move.{Move}
use Rattle.civl_meaning.specs.declared.config.Plain.{Plain}
use Rattle.civl_meaning.specs.declared.config.Config.{Config}
use Rattle.civl_meaning.specs.declared.config.Stepped.{Stepped}
use Rattle.civl_meaning.specs.declared.config.Stepped.TheVariants as answer
use Rattle.civl_meaning.specs.Step.{step_of}

-- the moves run from the first configuration to the second: each step is made
abbrev pub RunsTo : Plain → List Move → Config → Config → Type 0
RunsTo plain [] from to = from ≡ to
RunsTo plain (m ∷ ms) from to = (next : Config) × (step_of plain from m ≡ (answer.Moved, next)) × RunsTo plain ms next to

abbrev pub has_moved : Stepped → Bool
has_moved answer.Moved = true
has_moved answer.Blocked = false
has_moved answer.NoThread = false
has_moved answer.Ended = false
has_moved answer.Failing = false
has_moved answer.BadChoices = false

-- a run up to the first answer other than Moved: how many moves were made, on top of those before, that answer, and the
-- last configuration
abbrev pub run_of : Plain → List Move → ℕ → Config → ℕ × Option Stepped × Config
run_of plain [] made config = (made, None, config)
run_of plain (m ∷ ms) made config =
    if has_moved (step_of plain config m).0 then run_of plain ms (made + 1) (step_of plain config m).1
    else (made, Some (step_of plain config m).0, config)

-- the two say the same
abbrev pub RunsAreMade : Type 0
RunsAreMade = (plain : Plain) (moves : List Move) (from to : Config) → RunsTo plain moves from to ↔ (run_of plain moves 0 from ≡ (length moves, None, to))

-- a run of moves and then of others goes on where the first ended
abbrev pub RunsJoin : Type 0
RunsJoin =
    (plain : Plain) (moves others : List Move) (made count : ℕ) (from middle : Config) →
    run_of plain moves made from ≡ (count, None, middle) → run_of plain (moves ++ others) made from ≡ run_of plain others count middle
