-- The values of a test of stores of bools, in all stores.
use Rattle.std.specs.Prelude.{◌≡◌, ℕ, zero, suc, ◌<◌, ◌/◌, ◌%◌, ◌^◌, Bool, false, nat_eq, List, [], ◌∷◌, length, slice_index_or}

-- the bit of a number at this place, the lowest at 0
abbrev pub bit_of : ℕ → ℕ → Bool
bit_of place number = nat_eq ((number / 2 ^ place) % 2) 1

-- so many bits of a number from this place on
abbrev pub bits_from : ℕ → ℕ → ℕ → List Bool
bits_from place zero number = []
bits_from place (suc count) number = bit_of place number ∷ bits_from (suc place) count number

-- the store of so many bools that has this number: its bits, the lowest first
abbrev pub store_at : ℕ → ℕ → List Bool
store_at count number = bits_from 0 count number

-- the value at place j is that of a test at the store of so many bools with the number j
pub record IsTabled (count : ℕ) (test : List Bool → Bool) (values : List Bool) : Type 0 where
  pub size : length values ≡ 2 ^ count
  pub value : (j : ℕ) → j < 2 ^ count → slice_index_or values j false ≡ test (store_at count j)

-- every store has a number, below 2 to the number of its values
abbrev pub EachStoreNumbered : Type 0
EachStoreNumbered = (store : List Bool) → (number : ℕ) × (number < 2 ^ length store) × (store_at (length store) number ≡ store)
