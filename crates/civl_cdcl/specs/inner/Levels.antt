-- Serves private functions: the levels of a trail, by the places at which they start.
use Rattle.std.specs.Prelude.{◌≡◌, ◌⊎◌, ◌<◌, ◌≤◌, ◌-◌, ℕ, List, [], length, slice_index_or, Option, None, Some}

-- the first start
abbrev pub FirstSays : List ℕ → ℕ → Type 0
FirstSays starts s = (0 < length starts) × (slice_index_or starts 0 0 ≡ s)

-- the last start, if there is one
abbrev pub LastSays : List ℕ → Option ℕ → Type 0
LastSays starts None = starts ≡ []
LastSays starts (Some s) = (0 < length starts) × (slice_index_or starts (length starts - 1) 0 ≡ s)

-- Of starts that rise, the last of which isn't before the limit, so many are before it.
pub record AreBefore (starts : List ℕ) (limit levels : ℕ) : Type 0 where
  pub fewer : levels < length starts
  pub over : limit ≤ slice_index_or starts levels 0
  pub under : (levels ≡ 0) ⊎ (slice_index_or starts (levels - 1) 0 < limit)
