-- Part of the claim: docs/CLAIM.md.
-- Rows are the arrays of SMT-LIB (theory ArraysEx) from words of `index` bits to words of `width` bits.
use Rattle.std.specs.Prelude.{◌≡◌, ℕ, ◌-◌, ◌^◌, ◌≤◌, ◌<◌, Bool, ◌&&◌, nat_eq, List, ◌++◌, length, take, replicate, slice_index, slice_set}
use Rattle.std.specs.Cmp.{IsEquivalence}
use Rattle.std.specs.Cmp.Lexicographic.{pointwise}
use Rattle.std.proofs.Common.{sym, ap}
use Rattle.std.proofs.lemmas.Cmp.{nat_eq_equiv, nat_list_eq_equiv, on_equiv, and_equiv}
use Rattle.civl_bits.specs.declared.row.Row.TheInside.{Inside}

-- what clauses see of a row: cell i is the value of the word at index i
pub record Cells : Type 0 where
  pub index : ℕ
  pub width : ℕ
  pub cells : List ℕ

-- an index of 1 to 6 bits, cells of 1 to 32 bits, and a cell for each index
pub record IsRow (row : Cells) : Type 0 where
  pub low : 1 ≤ row.index
  pub high : row.index ≤ 6
  pub narrow : 1 ≤ row.width
  pub wide : row.width ≤ 32
  pub size : length row.cells ≡ 2 ^ row.index
  pub fits : (i : ℕ) → i < 2 ^ row.index → slice_index row.cells i < 2 ^ row.width

-- select
abbrev pub cell_at : Cells → ℕ → ℕ
cell_at row i = slice_index row.cells i

-- store: cell i is v, and the others stay
abbrev pub row_with : Cells → ℕ → ℕ → Cells
row_with row i v = record { index = row.index; width = row.width; cells = slice_set row.cells i v }

-- the constant array
abbrev pub filled_row : ℕ → ℕ → ℕ → Cells
filled_row index width v = record { index = index; width = width; cells = replicate (2 ^ index) v }

-- whether two rows are the same
abbrev pub same_row : Cells → Cells → Bool
same_row r s = nat_eq r.index s.index && nat_eq r.width s.width && pointwise nat_eq r.cells s.cells

pub IsEquivalence-same_row : IsEquivalence same_row
IsEquivalence-same_row =
    and_equiv (and_equiv (on_equiv (λ (r : Cells). r.index) nat_eq_equiv) (on_equiv (λ (r : Cells). r.width) nat_eq_equiv)) (on_equiv (λ (r : Cells). r.cells) nat_list_eq_equiv)

-- the array of 64 numbers that holds these cells, with zeros after them
abbrev pub padded : List ℕ → List ℕ
padded cells = cells ++ replicate (64 - length cells) 0

-- the row that is held in such an array
abbrev pub row_in : Inside → Cells
row_in r = record { index = r.index; width = r.width; cells = take (2 ^ r.index) r.cells }

pub record HoldsRow (r : Inside) : Type 0 where
  pub row : IsRow (row_in r)
  pub rest : r.cells ≡ padded (row_in r).cells

pub padded_again : (r : Inside) → HoldsRow r → record { index = r.index; width = r.width; cells = padded (row_in r).cells } ≡ r
padded_again r h = ap (λ (cs : List ℕ). record { index = r.index; width = r.width; cells = cs }) (sym h.rest)
