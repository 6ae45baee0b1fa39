use Rattle.std.proofs.Common.{◌≡◌, take}
use Rattle.civl_bits.specs.Row.{IsRow}
use Rattle.civl_script.specs.Values.{cells_of}
use Rattle.civl_script.proofs.written.row_at.Given as goal

-- so far the row has the cells, each of the first one's width
abbrev pub invariant-loop-at : goal.invariant-loop-at
invariant-loop-at l = record {
  is : IsRow l.row;
  index : l.row.index ≡ l.index;
  width : l.row.width ≡ l.first.0;
  cells : take l.at l.cells ≡ cells_of l.first.0 (take l.at l.row.cells);
}
