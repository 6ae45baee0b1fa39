use Rattle.std.proofs.Common.{get_or}
use Rattle.civl_terms.specs.Graphs.{sort_at}
use Rattle.civl_blast.proofs.rows.Choices.{Chosen}
use Rattle.civl_blast.proofs.rows.read.read_cell.Given as goal

abbrev pub invariant-loop-bit : goal.invariant-loop-bit
invariant-loop-bit l =
    Chosen l.fn.terms l.terms l.cells l.at l.index l.bit l.left.items (sort_at l.fn.terms (get_or l.cells 0 0))
