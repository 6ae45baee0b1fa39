use Rattle.std.proofs.Common.{Some}
use Rattle.civl_bits.specs.Row.{cell_at}
use Rattle.civl_bits.specs.declared.value.Value.TheVariants as value
use Rattle.civl_tree.specs.declared.expr.Sort.TheVariants as sort
use Rattle.civl_blast.specs.inner.rows.Making.{Makes, UsesNone}
use Rattle.civl_blast.proofs.rows.cells.constant_cells.Given as goal

abbrev pub invariant-loop-at : goal.invariant-loop-at
invariant-loop-at l =
    Makes l.initial.terms l.terms UsesNone l.ids.items l.at (Some (sort.Word l.row.width)) (λ env c. value.Word (l.row.width, cell_at l.row c)) 0
