-- What comes of bringing chosen moves to the front.
use Rattle.std.specs.Prelude.{ℕ, ◌+◌, ◌<◌, ◌≡◌, List, [], ◌∷◌, ◌++◌, length, All, nat_eq, if◌then◌else◌}
use Rattle.std.specs.List.Sorted.{IsStrictlyIncreasing}
use Rattle.civl_meaning.specs.declared.config.Move.{Move}
use Rattle.civl_meaning.specs.declared.config.Plain.{Plain}
use Rattle.civl_meaning.specs.declared.config.Config.{Config}
use Rattle.civl_meaning.specs.Run.{RunsTo}
use Rattle.civl_reduction.specs.declared.swapped.Swapped.TheVariants.{Same, Fails}
use Rattle.civl_reduction.specs.Swap.{RunsFailing}
use Rattle.civl_reduction.specs.Front.{IsFronted}

-- the moves at these rising places, of moves the first of which has this place
abbrev pub chosen_of : ℕ → List ℕ → List Move → List Move
chosen_of first places [] = []
chosen_of first [] (m ∷ ms) = []
chosen_of first (place ∷ places) (m ∷ ms) =
    if nat_eq place first then m ∷ chosen_of (first + 1) places ms else chosen_of (first + 1) (place ∷ places) ms

-- all others of them
abbrev pub others_of : ℕ → List ℕ → List Move → List Move
others_of first places [] = []
others_of first [] (m ∷ ms) = m ∷ ms
others_of first (place ∷ places) (m ∷ ms) =
    if nat_eq place first then others_of (first + 1) places ms else m ∷ others_of (first + 1) (place ∷ places) ms

-- `Same`: the chosen moves in their order, and then the others in theirs
abbrev pub ChosenComeFirst : Type 0
ChosenComeFirst =
    (plain : Plain) (from : Config) (moves : List Move) (chosen : List ℕ) (fronted : List Move)
    → IsStrictlyIncreasing chosen → All (λ (place : ℕ). place < length moves) chosen → IsFronted plain from moves chosen (Same fronted)
    → fronted ≡ chosen_of 0 chosen moves ++ others_of 0 chosen moves

-- they run to the configuration to which the moves run
abbrev pub FrontedRunAlike : Type 0
FrontedRunAlike =
    (plain : Plain) (from end : Config) (moves : List Move) (chosen : List ℕ) (fronted : List Move)
    → IsFronted plain from moves chosen (Same fronted) → RunsTo plain moves from end → RunsTo plain fronted from end

-- `Fails`: moves that run to a failing configuration
abbrev pub FrontedFail : Type 0
FrontedFail =
    (plain : Plain) (from : Config) (moves : List Move) (chosen : List ℕ) (shorter : List Move)
    → IsFronted plain from moves chosen (Fails shorter) → RunsFailing plain from shorter
