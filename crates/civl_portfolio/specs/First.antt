-- An honest first prover, over one round or several.
use Rattle.std.specs.Prelude.{◌≡◌, ℕ, zero, suc, List, [], ◌∷◌, IsTrue, ⊤}
use Rattle.civl_outside.specs.Count.{count_up}
use Rattle.civl_portfolio.specs.Prover.{Meanings}

-- a count after so many calls
abbrev pub counted : ℕ → ℕ → ℕ
counted count zero = count
counted count (suc n) = count_up (counted count n)

-- Where the first prover of the old list is honest, it is the first of the new one, still honest, and was asked so often.
abbrev pub KeepsFirst : {B : Type 0} → List B → List B → ℕ → Meanings B → Type 0
KeepsFirst [] news n m = ⊤
KeepsFirst {B} (before ∷ olds) news n m =
    IsTrue (m.honest before) → (after : B) × (rest : List B) × (news ≡ after ∷ rest) × (m.honest after ≡ m.honest before) × (m.asked after ≡ counted (m.asked before) n)
