-- The cells of a row, as they are written.
use Rattle.std.proofs.Common.{◌≡◌, ℕ, ◌<◌, ◌≤◌, ◌^◌, arith, List, length, take, get_or, slice_index, sym, ap, ◌∙◌, subst}
use Rattle.std.proofs.lemmas.List.{get_or-map, length-map, take_all}
use Rattle.civl_bits.specs.Row.{Cells, IsRow}
use Rattle.civl_tree.specs.declared.script.Literal.{Literal}
use Rattle.civl_tree.specs.declared.script.Literal.TheVariants.{Flag, Number}
use Rattle.civl_script.proofs.Powers.{is_size}
use Rattle.civl_script.specs.Values.{cells_of, IsRowOf, IsWordOf}

-- each cell is a word of the row's width
pub cell_is : (cells : List Literal) (row : Cells) (at : ℕ) (d : Literal) → IsRowOf cells row → at < length cells
    → IsWordOf (get_or cells at d) (row.width, slice_index row.cells at)
cell_is cells row at d h within =
    let long : at < length row.cells = subst (λ n. at < n) (ap length h.written ∙ length-map row.cells (λ cell. Number cell row.width)) within in
    record {
      is = record { narrow = h.is.narrow; wide = h.is.wide; fits = h.is.fits at (subst (λ n. at < n) h.is.size long) };
      written = ap (λ xs. get_or xs at d) h.written ∙ get_or-map (λ cell. Number cell row.width) row.cells at 0 d long;
    }

-- the value and the width of a literal
parts : Literal → ℕ × ℕ
parts (Flag flag) = (0, 0)
parts (Number value width) = (value, width)

-- a literal is one word
pub one_word : (literal : Literal) (v w : ℕ × ℕ) → IsWordOf literal v → IsWordOf literal w → v ≡ w
unfolding parts
one_word literal v w h k = ap (λ (p : ℕ × ℕ). (p.1, p.0)) (ap parts (sym h.written ∙ k.written))

-- there is a first cell
pub some_cells : (cells : List Literal) (index : ℕ) → 1 ≤ index → index ≤ 6 → length cells ≡ 2 ^ index → 0 < length cells
some_cells cells index low high size = let is = is_size index low high in omega (arith, is, size)

-- cells that are those of a row, up to the end
pub whole : (cells : List Literal) (row : Cells) (at width : ℕ) → length cells ≤ at → length cells ≡ 2 ^ row.index → IsRow row → row.width ≡ width
    → take at cells ≡ cells_of width (take at row.cells) → IsRowOf cells row
whole cells row at width past size is wide done =
    record {
      is = is;
      written = sym (take_all at cells past) ∙ done ∙ ap (cells_of width) (take_all at row.cells (subst (λ n. n ≤ at) (size ∙ sym is.size) past)) ∙ ap (λ w. cells_of w row.cells) (sym wide);
    }
