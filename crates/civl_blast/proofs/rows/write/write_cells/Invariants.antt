use Rattle.std.proofs.Common.{◌*◌, ◌+◌, get_or}
use Rattle.civl_firing.specs.values.Weights.{bits_in}
use Rattle.civl_terms.specs.Graphs.{sort_at, value_at}
use Rattle.civl_blast.specs.inner.rows.Making.{Makes, UsesWrite, written}
use Rattle.civl_blast.proofs.rows.write.write_cells.Given as goal

abbrev pub invariant-loop-i : goal.invariant-loop-i
invariant-loop-i l =
    Makes l.initial.terms l.terms (UsesWrite l.row l.at l.cell) l.ids.items l.i (sort_at l.initial.terms l.cell)
    (λ env c. written l.index (value_at env l.initial.terms l.at) (value_at env l.initial.terms l.cell) c (value_at env l.initial.terms (get_or l.row c 0)))
    (l.i * (l.index + bits_in (sort_at l.initial.terms l.cell)))
