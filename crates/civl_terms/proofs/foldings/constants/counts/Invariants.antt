use Rattle.std.proofs.Common.{◌≡◌, drop}
use Rattle.civl_terms.specs.foldings.Constants.{counts_from}
use Rattle.civl_terms.proofs.foldings.constants.counts.Given as goal

abbrev pub invariant-loop-at : goal.invariant-loop-at
invariant-loop-at l = counts_from 0 l.row.cells ≡ counts_from l.at (drop l.at l.row.cells)
