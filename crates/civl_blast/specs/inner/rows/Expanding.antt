-- For private functions alone: the variables that stand for the cells of a row.
use Rattle.std.specs.Prelude.{◌≡◌, ◌⊎◌, ℕ, zero, suc, ◌+◌, ◌*◌, ◌^◌, ◌<◌, Bool, true, false, List, [], ◌∷◌, ◌++◌, length, slice_get, Some}
use Rattle.civl_bits.specs.declared.value.Value.{Value}
use Rattle.civl_tree.specs.declared.expr.Sort.{Sort}
use Rattle.civl_tree.specs.declared.expr.Sort.TheVariants as sort
use Rattle.civl_firing.specs.values.Values.{HasSort}
use Rattle.civl_terms.specs.declared.node.Node.{Node}
use Rattle.civl_terms.specs.declared.node.Node.TheVariants.{Variable}
use Rattle.civl_terms.specs.Graphs.{Fits}
use Rattle.civl_terms.specs.Weights.{own_weight}
use Rattle.civl_terms.specs.Building.{Lengthens}
use Rattle.civl_blast.specs.rows.Cells.{cell_of, next_number, Reads, AddsCells}
use Rattle.civl_blast.specs.inner.rows.Making.{HaveSort, HaveValues, HasShape, HasCells, PartsHaveCells, HasParts, UsesNone, IsNew, IsOwn, Takes}
use Rattle.civl_blast.specs.declared.rows.flat.Cell.{Cell}

-- the entries of the first so many cells of a variable, with numbers from this one on
abbrev pub row_entries : ℕ → ℕ → ℕ → List Cell
row_entries variable first zero = []
row_entries variable first (suc c) = row_entries variable first c ++ record { variable = variable; cell = c; number = first + c } ∷ []

-- this is one of so many numbers from this one on, with the sort of a cell
abbrev pub IsCellNumber : ℕ → ℕ → ℕ → ℕ → Sort → Type 0
IsCellNumber first width count k s = (c : ℕ) × (c < count) × (k ≡ first + c) × (s ≡ sort.Word width)

-- so many cells of a variable got a variable each
pub record Expands (old new : List Node) (before after : List Cell) (variable index width count : ℕ) (ids : List ℕ) : Type 0 where
  pub grows : Lengthens old new
  pub numbers : next_number new ≡ next_number old + count
  pub cells : after ≡ before ++ row_entries variable (next_number old) count
  pub fits : (env : ℕ → Value) → Fits env old → HasSort (env variable) (sort.Row index width) → Reads env after → Fits env new
  pub size : length ids ≡ count
  pub sorted : HaveSort new ids (Some (sort.Word width))
  pub is : (env : ℕ → Value) → Fits env new → Reads env after → HaveValues env new ids (cell_of (env variable))
  pub only : (i k : ℕ) (s : Sort) → slice_get new i ≡ Some (Variable k s) → (slice_get old i ≡ Some (Variable k s)) ⊎ IsCellNumber (next_number old) width count k s
  pub each : (c : ℕ) → c < count → (i : ℕ) × (slice_get new i ≡ Some (Variable (next_number old + c) (sort.Word width)))
  pub adds : Takes old new UsesNone (IsNew old) ids (count * width)

-- the entries that a node makes
abbrev pub entries_of : Node → ℕ → List Cell
entries_of (Variable k (sort.Row index width)) first = row_entries k first (2 ^ index)
entries_of _ first = []

abbrev pub is_variable : Node → Bool
is_variable (Variable k s) = true
is_variable _ = false

-- the cells of a node were made, and entries for them where it is a variable that is a row
pub record Steps (old new : List Node) (before after : List Cell) (table : List (List ℕ)) (n : Node) (at : ℕ) (ids : List ℕ) : Type 0 where
  pub grows : Lengthens old new
  pub numbers : next_number new ≡ next_number old + length (entries_of n (next_number old))
  pub cells : after ≡ before ++ entries_of n (next_number old)
  pub fits : (env : ℕ → Value) → Fits env old → Reads env after → Fits env new
  pub shape : HasShape new ids at
  pub is : (env : ℕ → Value) → Fits env new → Reads env after → PartsHaveCells env old table n → HasCells env new ids at
  pub variables : AddsCells old new (entries_of n (next_number old))
  pub adds : Takes old new (HasParts table n) (IsOwn old at) ids (2 * own_weight old at)
