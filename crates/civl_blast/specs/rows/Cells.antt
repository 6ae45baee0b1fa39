-- The cells of values, and the variables that stand for the cells of variables that are rows (the expansion of an array
-- with finitely many indices to its elements).
use Rattle.std.specs.Prelude.{◌≡◌, ◌⊎◌, ℕ, ◌+◌, ◌^◌, ◌<◌, max, List, [], ◌∷◌, slice_get, Option, None, Some}
use Rattle.civl_bits.specs.Row.{cell_at}
use Rattle.civl_bits.specs.declared.value.Value.{Value}
use Rattle.civl_bits.specs.declared.value.Value.TheVariants as value
use Rattle.civl_tree.specs.declared.expr.Sort.{Sort}
use Rattle.civl_tree.specs.declared.expr.Sort.TheVariants as sort
use Rattle.civl_terms.specs.declared.node.Node.{Node}
use Rattle.civl_terms.specs.declared.node.Node.TheVariants.{Variable}
use Rattle.civl_blast.specs.reach.Reaching.{Reaches}
use Rattle.civl_blast.specs.declared.rows.flat.Cell.{Cell}

-- the cell of a row at an index; a bool or a word is its own only cell
abbrev pub cell_of : Value → ℕ → Value
cell_of (value.Bool b) c = value.Bool b
cell_of (value.Word a) c = value.Word a
cell_of (value.Row r) c = value.Word (r.width, cell_at r c)

-- how many cells a value of this sort has
abbrev pub cells_in : Option Sort → ℕ
cells_in None = 0
cells_in (Some sort.Bool) = 1
cells_in (Some (sort.Word width)) = 1
cells_in (Some (sort.Row index width)) = 2 ^ index

-- the sort of each
abbrev pub cell_sort : Option Sort → Option Sort
cell_sort None = None
cell_sort (Some sort.Bool) = Some sort.Bool
cell_sort (Some (sort.Word width)) = Some (sort.Word width)
cell_sort (Some (sort.Row index width)) = Some (sort.Word width)

-- the least number above those of all variables
abbrev pub number_above : Node → ℕ
number_above (Variable k s) = k + 1
number_above _ = 0

abbrev pub next_number : List Node → ℕ
next_number [] = 0
next_number (n ∷ ns) = max (number_above n) (next_number ns)

-- each of these variables has the value of the cell that it stands for
abbrev pub Reads : (ℕ → Value) → List Cell → Type 0
Reads env [] = Unit {0}
Reads env (e ∷ es) = (env e.number ≡ cell_of (env e.variable) e.cell) × Reads env es

-- each cell of each row variable that the term reaches has one entry, and there are no others; the numbers go up from the
-- least above all numbers that the graph had
pub record HasEntries (ns : List Node) (id : ℕ) (cells : List Cell) : Type 0 where
  pub each : (i k index width c : ℕ) → Reaches ns id i → slice_get ns i ≡ Some (Variable k (sort.Row index width)) → c < 2 ^ index → (p : ℕ) × (slice_get cells p ≡ Some (record { variable = k; cell = c; number = next_number ns + p }))
  pub only : (p : ℕ) (e : Cell) → slice_get cells p ≡ Some e → (i index width : ℕ) × Reaches ns id i × (slice_get ns i ≡ Some (Variable e.variable (sort.Row index width))) × (e.cell < 2 ^ index)
  pub numbers : (p : ℕ) (e : Cell) → slice_get cells p ≡ Some e → e.number ≡ next_number ns + p
  pub once : (p q : ℕ) (d e : Cell) → slice_get cells p ≡ Some d → slice_get cells q ≡ Some e → d.variable ≡ e.variable → d.cell ≡ e.cell → p ≡ q

-- a variable of this number and sort stands for a cell: the number is an entry's, and the sort that of the cells of the entry's row
pub record StandsForCell (ns : List Node) (cells : List Cell) (k : ℕ) (s : Sort) : Type 0 where
  pub place : ℕ
  pub entry : Cell
  pub there : slice_get cells place ≡ Some entry
  pub numbered : k ≡ entry.number
  pub row : ℕ
  pub index : ℕ
  pub width : ℕ
  pub is_row : slice_get ns row ≡ Some (Variable entry.variable (sort.Row index width))
  pub sorted : s ≡ sort.Word width

-- the new graph's variables are those of the old one and one for each of these cells
pub record AddsCells (old new : List Node) (cells : List Cell) : Type 0 where
  pub only : (i k : ℕ) (s : Sort) → slice_get new i ≡ Some (Variable k s) → (slice_get old i ≡ Some (Variable k s)) ⊎ StandsForCell old cells k s
  pub each : (k : ℕ) (s : Sort) → StandsForCell old cells k s → (i : ℕ) × (slice_get new i ≡ Some (Variable k s))

-- each variable that the new term reaches is one that the old term reaches, or it stands for one of these cells
abbrev pub ReachesOnly : List Node → ℕ → List Node → ℕ → List Cell → Type 0
ReachesOnly old id new flat cells = (i k : ℕ) (s : Sort) → Reaches new flat i → slice_get new i ≡ Some (Variable k s) → (Reaches old id i × (slice_get old i ≡ Some (Variable k s))) ⊎ StandsForCell old cells k s

-- all numbers of variables are below this one
abbrev pub NumbersBelow : ℕ → List Node → Type 0
NumbersBelow bound ns = (i k : ℕ) (s : Sort) → slice_get ns i ≡ Some (Variable k s) → k < bound
