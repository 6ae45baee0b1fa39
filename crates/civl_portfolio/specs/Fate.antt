-- What became of the provers that were asked.
use Rattle.std.specs.Prelude.{◌≡◌, ℕ, ◌+◌, List, [], ◌∷◌, ◌++◌, Option, None, Some}

-- A prover that was asked: how it was before, and how it is after, where it stays. None says that it is gone.
pub record Fate (B : Type 0) : Type 0 where
  pub before : B
  pub after : Option B

-- those that were asked, as they were
abbrev pub asked_of : {B : Type 0} → List (Fate B) → List B
asked_of [] = []
asked_of (fate ∷ fates) = fate.before ∷ asked_of fates

-- in front, where there is one
abbrev pub in_front : {B : Type 0} → Option B → List B → List B
in_front None rest = rest
in_front (Some b) rest = b ∷ rest

-- those that stay, as they are, in their order
abbrev pub staying_of : {B : Type 0} → List (Fate B) → List B
staying_of [] = []
staying_of (fate ∷ fates) = in_front fate.after (staying_of fates)

abbrev pub one_if_gone : {B : Type 0} → Option B → ℕ
one_if_gone None = 1
one_if_gone (Some b) = 0

-- how many are gone
abbrev pub gone_of : {B : Type 0} → List (Fate B) → ℕ
gone_of [] = 0
gone_of (fate ∷ fates) = one_if_gone fate.after + gone_of fates

-- A first part of the old list was asked, with these fates, and the later ones weren't: in the new list those that stay keep their order, and the later ones stand behind them as they were.
pub record AreFates {B : Type 0} (fates : List (Fate B)) (later olds news : List B) : Type 0 where
  pub olds_are : olds ≡ asked_of fates ++ later
  pub news_are : news ≡ staying_of fates ++ later
