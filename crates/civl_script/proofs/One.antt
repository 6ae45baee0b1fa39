-- An entry writes at most one value.
use Rattle.std.proofs.Common.{◌≡◌, ℕ, ◌<◌, Bool, true, false, List, [], ◌∷◌, length, refl, sym, ap, ◌∙◌, arith}
use Rattle.std.proofs.lemmas.Bool.{true≢false}
use Rattle.civl_bits.specs.Row.{Cells, IsRow}
use Rattle.civl_bits.specs.declared.value.Value.{Value}
use Rattle.civl_bits.specs.declared.value.Value.TheVariants as value
use Rattle.civl_tree.specs.declared.script.Entry.{Entry}
use Rattle.civl_tree.specs.declared.script.Literal.{Literal}
use Rattle.civl_tree.specs.declared.script.Literal.TheVariants.{Flag, Number}
use Rattle.civl_script.specs.Values.{cells_of, IsValueOf, IsFlatOf}
use Rattle.civl_script.proofs.Powers.{one_power, is_size}

-- ---- what literals say

abbrev flag_in : List Literal → Bool
flag_in (Flag flag ∷ rest) = flag
flag_in rest = false

abbrev pub is_flag : List Literal → Bool
is_flag (Flag flag ∷ rest) = true
is_flag rest = false

abbrev pub number_in : List Literal → ℕ
number_in (Number number width ∷ rest) = number
number_in rest = 0

abbrev pub width_in : List Literal → ℕ
width_in (Number number width ∷ rest) = width
width_in rest = 0

abbrev pub numbers_in : List Literal → List ℕ
numbers_in [] = []
numbers_in (Number number width ∷ rest) = number ∷ numbers_in rest
numbers_in (Flag flag ∷ rest) = numbers_in rest

pub numbers_of : (width : ℕ) (cells : List ℕ) → numbers_in (cells_of width cells) ≡ cells
numbers_of width [] = refl
numbers_of width (x ∷ xs) = ap (λ ys. x ∷ ys) (numbers_of width xs)

pub width_of : (width : ℕ) (cells : List ℕ) → 0 < length cells → width_in (cells_of width cells) ≡ width
width_of width [] h = absurd (omega (arith, h))
width_of width (x ∷ xs) h = refl

-- ---- rows

same_rows : (r s : Cells) → r.index ≡ s.index → r.width ≡ s.width → r.cells ≡ s.cells → r ≡ s
same_rows r s i w c =
    ap (λ n. record { index = n; width = r.width; cells = r.cells }) i
    ∙ (ap (λ n. record { index = s.index; width = n; cells = r.cells }) w ∙ ap (λ xs. record { index = s.index; width = s.width; cells = xs }) c)

pub some_cells : (r : Cells) → IsRow r → 0 < length r.cells
some_cells r h = let is = is_size r.index h.low h.high in let size = h.size in omega (arith, is, size)

one_row : (r s : Cells) → IsRow r → IsRow s → cells_of r.width r.cells ≡ cells_of s.width s.cells → r ≡ s
one_row r s h k same =
    let cells : r.cells ≡ s.cells = sym (numbers_of r.width r.cells) ∙ ap numbers_in same ∙ numbers_of s.width s.cells in
    let width : r.width ≡ s.width = sym (width_of r.width r.cells (some_cells r h)) ∙ ap width_in same ∙ width_of s.width s.cells (some_cells s k) in
    let index : r.index ≡ s.index = one_power r.index s.index (sym h.size ∙ ap length cells ∙ k.size) in
    same_rows r s index width cells

-- ---- values

pub one_value : (entry : Entry) (v w : Value) → IsValueOf entry v → IsValueOf entry w → v ≡ w
one_value entry (value.Bool a) (value.Bool b) h k = ap (λ flag. value.Bool flag) (ap flag_in (sym h.writes.cells_are ∙ k.writes.cells_are))
one_value entry (value.Bool a) (value.Word b) h k = absurd (true≢false (ap is_flag (sym h.writes.cells_are ∙ k.writes.cells_are)))
one_value entry (value.Bool a) (value.Row b) h k = absurd (true≢false (sym k.writes.row_is ∙ h.writes.row_is))
one_value entry (value.Word a) (value.Bool b) h k = absurd (true≢false (ap is_flag (sym k.writes.cells_are ∙ h.writes.cells_are)))
one_value entry (value.Word a) (value.Word b) h k =
    let same = sym h.writes.cells_are ∙ k.writes.cells_are in
    ap (λ word. value.Word word) (ap (λ w. (w, a.1)) (ap width_in same) ∙ ap (λ n. (b.0, n)) (ap number_in same))
one_value entry (value.Word a) (value.Row b) h k = absurd (true≢false (sym k.writes.row_is ∙ h.writes.row_is))
one_value entry (value.Row a) (value.Bool b) h k = absurd (true≢false (sym h.writes.row_is ∙ k.writes.row_is))
one_value entry (value.Row a) (value.Word b) h k = absurd (true≢false (sym h.writes.row_is ∙ k.writes.row_is))
one_value entry (value.Row a) (value.Row b) h k = ap (λ row. value.Row row) (one_row a b h.is k.is (sym h.writes.cells_are ∙ k.writes.cells_are))

-- what is written outside a row is such a value
pub flat_is : (entry : Entry) (value : Value) → entry.row ≡ false → IsValueOf entry value → IsFlatOf entry.cells value
flat_is entry (value.Bool a) flat h = h.writes.cells_are
flat_is entry (value.Word a) flat h = (h.is, h.writes.cells_are)
flat_is entry (value.Row a) flat h = true≢false (sym h.writes.row_is ∙ flat)
