-- Chosen moves of an interleaving are brought to its front by exchanges of neighbours.
use Rattle.std.specs.Prelude.{ℕ, zero, suc, ◌+◌, ◌-◌, ◌≡◌, List, [], ◌∷◌, ◌++◌, ◌⊎◌}
use Rattle.civl_meaning.specs.declared.config.Move.{Move}
use Rattle.civl_meaning.specs.declared.config.Plain.{Plain}
use Rattle.civl_meaning.specs.declared.config.Config.{Config}
use Rattle.civl_reduction.specs.declared.swapped.Swapped.{Swapped}
use Rattle.civl_reduction.specs.declared.swapped.Swapped.TheVariants.{Same, Fails, Differs}
use Rattle.civl_reduction.specs.Swap.{IsSwapped}

-- the places at which the move that stands so many places behind `to` is exchanged with its left neighbour, one after the
-- other, until it stands there
abbrev pub down : ℕ → ℕ → List ℕ
down zero to = []
down (suc count) to = (to + count) ∷ down count to

-- those at which the moves at these rising places are, in their order, until they stand behind one another from `to` on
abbrev pub exchanges : ℕ → List ℕ → List ℕ
exchanges to [] = []
exchanges to (place ∷ places) = down (place - to) to ++ exchanges (to + 1) places

abbrev pub IsStop : Swapped → Type 0
IsStop (Same moves) = ⊥
IsStop (Fails shorter) = Unit {0}
IsStop (Differs place) = Unit {0}

-- exchanges at these places, one after the other, up to the first that doesn't give the same
abbrev pub AreExchanged : Plain → Config → List ℕ → List Move → Swapped → Type 0
AreExchanged plain from [] moves answer = answer ≡ Same moves
AreExchanged plain from (place ∷ places) moves answer =
    (IsSwapped plain from moves place answer × IsStop answer)
    ⊎ ((others : List Move) × IsSwapped plain from moves place (Same others) × AreExchanged plain from places others answer)

-- the moves at these places are brought to the front
abbrev pub IsFronted : Plain → Config → List Move → List ℕ → Swapped → Type 0
IsFronted plain from moves chosen answer = AreExchanged plain from (exchanges 0 chosen) moves answer
