-- The cells of a row.
use Rattle.std.proofs.Common.{◌≡◌, ◌∙◌, ℕ, zero, suc, ◌+◌, ◌-◌, ◌^◌, ◌<◌, ◌≤◌, List, [], ◌∷◌, ◌++◌, length, take, set, replicate, sym, ap, ap₂, subst, arith, append_assoc, inl, inr}
use Rattle.std.proofs.Math.Pow.{pow_mono}
use Rattle.std.proofs.Math.ListN.{length-set}
use Rattle.std.proofs.Math.Seq.{take-append_seam}
use Rattle.std.proofs.lemmas.Bool.{cases_eq}
use Rattle.std.proofs.lemmas.Grind.{replicate_next, same_number_lists}
use Rattle.std.proofs.lemmas.List.{length-replicate, get_or-set_same, get_or-set_other, set-append_left, set-append_right}
use Rattle.civl_bits.specs.declared.row.Row.TheInside.{Inside}
use Rattle.civl_bits.specs.Word.{IsWord}
use Rattle.civl_bits.specs.Row.{Cells, IsRow, cell_at, row_with, padded, row_in, HoldsRow}
use Rattle.civl_bits.proofs.Powers.{below_same}

pub at_most_64 : (index : ℕ) → index ≤ 6 → 2 ^ index ≤ 64
at_most_64 index h = pow_mono {i = index} {j = 6} h

-- an array that holds the cells of a row and zeros holds the row
pub holds_padded : (row : Cells) (cells : List ℕ) → IsRow row → cells ≡ padded row.cells → HoldsRow (record { index = row.index; width = row.width; cells = cells }) × (take (2 ^ row.index) cells ≡ row.cells)
holds_padded row cells h e =
    let front : take (2 ^ row.index) cells ≡ row.cells = ap₂ take (sym h.size) e ∙ take-append_seam row.cells (replicate (64 - length row.cells) 0) in
    let P : List ℕ → Type 0 = λ cs. IsRow (record { index = row.index; width = row.width; cells = cs }) in
    (record { row = subst P (sym front) h; rest = e ∙ ap padded (sym front) }, front)

pub IsRow-with : (row : Cells) (n v : ℕ) → IsRow row → n < 2 ^ row.index → v < 2 ^ row.width → IsRow (row_with row n v)
IsRow-with row n v r h k = record {
  low = r.low;
  high = r.high;
  narrow = r.narrow;
  wide = r.wide;
  size = length-set row.cells n v ∙ r.size;
  fits = λ i l. elim (cases_eq i n) [
    | inl e ↦ rw (e, get_or-set_same row.cells n v 0 (omega (arith, r.size))) k
    | inr ne ↦ rw (get_or-set_other row.cells n i v 0 ne) (r.fits i l)
  ];
}

-- one more cell of a row that is being filled
pub fill_more : (at v : ℕ) (cells : List ℕ) → at < 64 → cells ≡ replicate at v ++ replicate (64 - at) 0 → set cells at v ≡ replicate (at + 1) v ++ replicate (64 - (at + 1)) 0
fill_more at v cells h e =
    let one : 64 - at ≡ suc (64 - (at + 1)) = omega arith in
    let none : at - at ≡ zero = omega arith in
    ap (λ cs. set cs at v) (e ∙ ap (λ n. replicate at v ++ replicate n 0) one)
    ∙ set-append_right (replicate at v) (replicate (suc (64 - (at + 1))) 0) at at v (length-replicate at v) (omega arith)
    ∙ ap (λ n. replicate at v ++ set (replicate (suc (64 - (at + 1))) 0) n v) none
    ∙ sym (append_assoc (replicate at v) (v ∷ []) (replicate (64 - (at + 1)) 0))
    ∙ ap (λ ls. ls ++ replicate (64 - (at + 1)) 0) (sym (replicate_next at v))

-- a write into the array of a row
written : (r : Inside) (n v : ℕ) → HoldsRow r → n < 2 ^ r.index → v < 2 ^ r.width → HoldsRow (record r { cells = set r.cells n v }) × (row_in (record r { cells = set r.cells n v }) ≡ row_with (row_in r) n v)
written r n v h l k =
    let front = take (2 ^ r.index) r.cells in
    let size : length front ≡ 2 ^ r.index = h.row.size in
    let padding : set r.cells n v ≡ padded (set front n v) =
    ap (λ cs. set cs n v) h.rest ∙ set-append_left front (replicate (64 - length front) 0) n v (omega arith)
    ∙ ap (λ m. set front n v ++ replicate (64 - m) 0) (sym (length-set front n v)) in
    let both = holds_padded (row_with (row_in r) n v) (set r.cells n v) (IsRow-with (row_in r) n v h.row l k) padding in
    (both.0, ap (λ (cs : List ℕ). record { index = r.index; width = r.width; cells = cs }) both.1)

-- the same, of a row as clauses see it and words whose widths are the row's
pub set_row : (r : Inside) (row : Cells) (at cell : ℕ × ℕ) (n v : ℕ) → HoldsRow r → row_in r ≡ row → n ≡ at.1 → IsWord at.0 at.1 → v ≡ cell.1 → IsWord cell.0 cell.1 → at.0 ≡ row.index → cell.0 ≡ row.width → HoldsRow (record r { cells = set r.cells n v }) × (row_in (record r { cells = set r.cells n v }) ≡ row_with row at.1 cell.1)
set_row r row at cell n v h e en word ev value index width =
    let place : n < 2 ^ r.index = below_same n at.1 at.0 r.index en (index ∙ sym (ap (λ (seen : Cells). seen.index) e)) word.fits in
    let fits : v < 2 ^ r.width = below_same v cell.1 cell.0 r.width ev (width ∙ sym (ap (λ (seen : Cells). seen.width) e)) value.fits in
    let both = written r n v h place fits in
    (both.0, both.1 ∙ ap (λ (seen : Cells). row_with seen n v) e ∙ ap₂ (row_with row) en ev)

pub same_rows : (r s : Cells) → IsRow r → IsRow s → r.index ≡ s.index → r.width ≡ s.width → ((i : ℕ) → i < 2 ^ r.index → cell_at r i ≡ cell_at s i) → r ≡ s
same_rows r s h k index width same =
    let cells : r.cells ≡ s.cells = same_number_lists r.cells s.cells (h.size ∙ ap (λ n. 2 ^ n) index ∙ sym k.size) (λ i l. same i (omega (arith, h.size))) in
    ap (λ (n : ℕ). record { index = n; width = r.width; cells = r.cells }) index ∙ ap₂ (λ (n : ℕ) (cs : List ℕ). record { index = s.index; width = n; cells = cs }) width cells
