-- Texts of lines, each of which ends with byte 10.
use Rattle.std.specs.Prelude.{◌≡◌, ℕ, ◌⊎◌, List, [], ◌∷◌, ◌++◌}

abbrev pub line : List ℕ → List ℕ
line text = text ++ 10 ∷ []

-- a line begins behind these bytes
abbrev pub EndsLine : List ℕ → Type 0
EndsLine bytes = (bytes ≡ []) ⊎ ((earlier : List ℕ) × (bytes ≡ line earlier))

-- some line of the text begins with this word
pub record HasLineThatBegins (word text : List ℕ) : Type 0 where
  pub before : List ℕ
  pub after : List ℕ
  pub parts : text ≡ before ++ (word ++ after)
  pub ends : EndsLine before
