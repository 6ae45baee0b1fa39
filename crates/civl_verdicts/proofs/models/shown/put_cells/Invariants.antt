use Rattle.std.proofs.Common.{◌≡◌, ◌≤◌, ◌++◌, map, take}
use Rattle.civl_verdicts.specs.models.Text.{word_text, listed}
use Rattle.civl_verdicts.proofs.models.shown.put_cells.Given as goal

-- the cells up to here are written
abbrev pub invariant-loop-at : goal.invariant-loop-at
invariant-loop-at l = record {
  some : 1 ≤ l.at;
  written : l.out.items ≡ l.fn.out.items ++ listed (map (word_text l.row.width) (take l.at l.row.cells));
}
