-- Serves private functions: what a search notes.
use Rattle.std.specs.Prelude.{◌≡◌, ℕ, List, Bool, false, All, length}

-- none of so many variables is seen
pub record IsClear (seen : List Bool) (variables : ℕ) : Type 0 where
  pub size : length seen ≡ variables
  pub none : All (λ b. b ≡ false) seen
