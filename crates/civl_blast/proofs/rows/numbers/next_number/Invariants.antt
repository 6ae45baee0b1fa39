use Rattle.std.proofs.Common.{◌≡◌, ◌≤◌, ◌^◌, take}
use Rattle.civl_blast.specs.rows.Cells.{next_number}
use Rattle.civl_blast.proofs.rows.numbers.next_number.Given as goal

abbrev pub invariant-loop-at : goal.invariant-loop-at
invariant-loop-at l = (l.next ≡ next_number (take l.at l.terms)) × (l.next ≤ 2 ^ 31)
