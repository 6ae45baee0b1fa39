-- The values that bits give to variables: at each place stand the bits of one cell of one variable, the lowest first, and a cell
-- that has no place is 0 or false. (Bit-blasting, as in Kroening, Strichman, "Decision Procedures", 2008, chapter 6: a
-- satisfying assignment is read back word by word.)
use Rattle.std.specs.Prelude.{◌≡◌, ℕ, ◌+◌, ◌<◌, ◌≤◌, Bool, List, slice_get, Some, All}
use Rattle.civl_bits.specs.Word.{number_of_bits}
use Rattle.civl_bits.specs.Row.{row_with}
use Rattle.civl_bits.specs.declared.value.Value.{Value}
use Rattle.civl_bits.specs.declared.value.Value.TheVariants as value
use Rattle.civl_tree.specs.declared.expr.Sort.{Sort}
use Rattle.civl_firing.specs.values.Values.{zero_of, HasSort, HaveSorts}
use Rattle.civl_cnf.specs.Gates.{bit}
use Rattle.civl_terms.specs.Graphs.{listed}
use Rattle.civl_blast.specs.rows.Cells.{cell_of, cells_in}
use Rattle.civl_blast.specs.declared.blasted.Place.{Place}
use Rattle.civl_blast.specs.Standing.{ShowAll, cell_bits}

-- the number whose bits stand from a place on, so many
abbrev pub number_from : (ℕ → Bool) → ℕ → ℕ → ℕ
number_from v first width = number_of_bits width (λ j. bit (v (first + j)))

-- the value with this cell as the bits from a place on have it
abbrev pub with_cell : (ℕ → Bool) → ℕ → Value → ℕ → Value
with_cell v first (value.Bool b) cell = value.Bool (v first)
with_cell v first (value.Word a) cell = value.Word (a.0, number_from v first a.0)
with_cell v first (value.Row r) cell = value.Row (row_with r cell (number_from v first r.width))

-- the place is that of a cell of a variable of these sorts, and its bits are among so many
pub record IsCellPlace (sorts : List Sort) (count : ℕ) (e : Place) : Type 0 where
  pub sort : Sort
  pub there : slice_get sorts e.variable ≡ Some sort
  pub cell : e.cell < cells_in (Some sort)
  pub room : e.first + cell_bits sort ≤ count

-- the variables that have places have values of their sorts
abbrev pub FitAt : List Sort → List Place → (ℕ → Value) → Type 0
FitAt sorts places env = All (λ p. (s : Sort) → slice_get sorts p.variable ≡ Some s → HasSort (env p.variable) s) places

-- the cells that have places are the same
abbrev pub AgreeAt : List Place → (ℕ → Value) → (ℕ → Value) → Type 0
AgreeAt places env other = All (λ p. cell_of (env p.variable) p.cell ≡ cell_of (other p.variable) p.cell) places

-- this cell has no place
abbrev pub HasNoPlace : List Place → ℕ → ℕ → Type 0
HasNoPlace places k c = All (λ p. p.variable ≡ k → p.cell ≡ c → ⊥) places

-- values of these sorts: at the places those that the bits show, whichever values these are, and elsewhere zeros
pub record AreRead (sorts : List Sort) (places : List Place) (v : ℕ → Bool) (values : List Value) : Type 0 where
  pub sorted : HaveSorts values sorts
  pub shown : (env : ℕ → Value) → FitAt sorts places env → ShowAll v places env → AgreeAt places (listed values) env
  pub rest : (k c : ℕ) (s : Sort) → slice_get sorts k ≡ Some s → c < cells_in (Some s) → HasNoPlace places k c → cell_of (listed values k) c ≡ cell_of (zero_of s) c
