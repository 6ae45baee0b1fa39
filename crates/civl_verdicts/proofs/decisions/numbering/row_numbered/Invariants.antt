use Rattle.std.specs.Prelude.{◌≡◌, ◌++◌, ◌-◌, ◌^◌, take, length}
use Rattle.civl_verdicts.specs.decisions.Numbered.{cells_numbered}
use Rattle.civl_verdicts.proofs.decisions.numbering.row_numbered.Given as goal

abbrev pub invariant-loop-at : goal.invariant-loop-at
invariant-loop-at l =
    (l.row.index ≡ l.index) × (l.row.width ≡ l.width) × (length l.row.cells ≡ 2 ^ l.index)
    × (take l.at l.row.cells ++ cells_numbered (2 ^ l.index - l.at) l.width l.rest ≡ cells_numbered (2 ^ l.index) l.width l.number)
