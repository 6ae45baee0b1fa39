-- All lists of values of some sorts, by their numbers: the first value has the lowest bits of the number, and so on; a row has those of
-- its first cell lowest (numbers in a mixed radix).
use Rattle.std.specs.Prelude.{◌≡◌, ℕ, zero, suc, ◌/◌, ◌%◌, ◌^◌, ◌<◌, nat_eq, List, [], ◌∷◌, map}
use Rattle.civl_bits.specs.declared.value.Value.{Value}
use Rattle.civl_bits.specs.declared.value.Value.TheVariants as value
use Rattle.civl_tree.specs.declared.expr.Sort.{Sort}
use Rattle.civl_tree.specs.declared.expr.Sort.TheVariants as sort
use Rattle.civl_tree.specs.rules.StoreSize.{bits_of}
use Rattle.civl_firing.specs.values.Values.{HaveSorts}
use Rattle.civl_conditions.specs.Weights.{summed}

-- so many cells of this width
abbrev pub cells_numbered : ℕ → ℕ → ℕ → List ℕ
cells_numbered zero width n = []
cells_numbered (suc k) width n = n % 2 ^ width ∷ cells_numbered k width (n / 2 ^ width)

abbrev pub value_numbered : Sort → ℕ → Value
value_numbered sort.Bool n = value.Bool (nat_eq n 1)
value_numbered (sort.Word width) n = value.Word (width, n)
value_numbered (sort.Row index width) n = value.Row (record { index = index; width = width; cells = cells_numbered (2 ^ index) width n })

abbrev pub values_numbered : List Sort → ℕ → List Value
values_numbered [] n = []
values_numbered (s ∷ ss) n = value_numbered s (n % 2 ^ bits_of s) ∷ values_numbered ss (n / 2 ^ bits_of s)

-- their bits together
abbrev pub bits_together : List Sort → ℕ
bits_together sorts = summed (map bits_of sorts)

-- each list of values of these sorts has a number below two to their bits
abbrev pub EachIsNumbered : Type 0
EachIsNumbered = (sorts : List Sort) (values : List Value) → HaveSorts values sorts → (n : ℕ) × (n < 2 ^ bits_together sorts) × (values_numbered sorts n ≡ values)
