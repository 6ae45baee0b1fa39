-- The exchange of two neighbouring moves of an interleaving. (Lipton, Reduction: a method of proving properties of parallel
-- programs, 1975.)
use Rattle.std.specs.Prelude.{ℕ, ◌+◌, ◌≡◌, List, take, IsTrue, ◌⊎◌}
use Rattle.std.specs.List.{swap}
use Rattle.civl_meaning.specs.declared.config.Move.{Move}
use Rattle.civl_meaning.specs.declared.config.Plain.{Plain}
use Rattle.civl_meaning.specs.declared.config.Config.{Config}
use Rattle.civl_meaning.specs.Run.{RunsTo}
use Rattle.civl_meaning.specs.Failing.{is_failing}
use Rattle.civl_reduction.specs.declared.swapped.Swapped.{Swapped}
use Rattle.civl_reduction.specs.declared.swapped.Swapped.TheVariants.{Same, Fails, Differs}

-- both run from here to the same configuration
abbrev pub RunAlike : Plain → Config → List Move → List Move → Type 0
RunAlike plain from moves others = (end : Config) × RunsTo plain moves from end × RunsTo plain others from end

-- they run from here to a failing configuration
abbrev pub RunsFailing : Plain → Config → List Move → Type 0
RunsFailing plain from moves = (end : Config) × RunsTo plain moves from end × IsTrue (is_failing plain end)

-- with the moves at this place and behind it exchanged
abbrev pub exchanged_at : ℕ → List Move → List Move
exchanged_at place moves = swap moves place (place + 1)

-- the moves before the place, and these with the move that stood behind it
abbrev pub before : ℕ → List Move → List Move
before place moves = take place moves

abbrev pub one_more : ℕ → List Move → List Move
one_more place moves = take (place + 1) (exchanged_at place moves)

-- Same: the exchanged list, which runs to the same configuration. Where it doesn't, Fails: one of the two shorter lists,
-- which runs to a failing configuration. Where neither does, Differs, with the place.
abbrev pub IsSwapped : Plain → Config → List Move → ℕ → Swapped → Type 0
IsSwapped plain from moves place (Same others) = (others ≡ exchanged_at place moves) × RunAlike plain from moves others
IsSwapped plain from moves place (Fails shorter) =
    (RunAlike plain from moves (exchanged_at place moves) → ⊥)
    × ((shorter ≡ before place moves) ⊎ (shorter ≡ one_more place moves))
    × RunsFailing plain from shorter
IsSwapped plain from moves place (Differs at) =
    (at ≡ place)
    × (RunAlike plain from moves (exchanged_at place moves) → ⊥)
    × (RunsFailing plain from (before place moves) → ⊥)
    × (RunsFailing plain from (one_more place moves) → ⊥)
