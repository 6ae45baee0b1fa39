-- What a round leaves of a list of one prover.
use Rattle.std.specs.Prelude.{◌≡◌, ◌⊎◌, ℕ, Bool, List, [], ◌∷◌}
use Rattle.civl_outside.specs.Count.{Rose}
use Rattle.civl_portfolio.specs.Prover.{Meanings}

-- It is gone, or is left and says that it lacked memory: its count of that was so much before.
abbrev pub IsGoneOrLacks : {B : Type 0} → List B → ℕ → ℕ → Meanings B → Type 0
IsGoneOrLacks {B} news retired lacks m =
    ((news ≡ []) × (retired ≡ 1)) ⊎ ((after : B) × (news ≡ after ∷ []) × (retired ≡ 0) × Rose lacks (m.lacks after))

-- It is left, was asked so often in all, and is honest or not.
pub record IsLeft {B : Type 0} (news : List B) (retired asked : ℕ) (honest : Bool) (m : Meanings B) : Type 0 where
  pub after : B
  pub alone : news ≡ after ∷ []
  pub none : retired ≡ 0
  pub often : m.asked after ≡ asked
  pub same : m.honest after ≡ honest
