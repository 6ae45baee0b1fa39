use Rattle.std.proofs.Common.{◌*◌, get_or}
use Rattle.civl_firing.specs.values.Operators.{pick_value}
use Rattle.civl_firing.specs.values.Weights.{bits_in}
use Rattle.civl_terms.specs.Graphs.{sort_at, value_at}
use Rattle.civl_blast.specs.inner.rows.Making.{Makes, UsesPicks}
use Rattle.civl_blast.proofs.rows.cells.pick_cells.Given as goal

abbrev pub invariant-loop-i : goal.invariant-loop-i
invariant-loop-i l =
    Makes l.initial.terms l.terms (UsesPicks l.c l.a l.b) l.ids.items l.i (sort_at l.initial.terms (get_or l.a 0 0))
    (λ env i. pick_value (value_at env l.initial.terms l.c) (value_at env l.initial.terms (get_or l.a i 0)) (value_at env l.initial.terms (get_or l.b i 0)))
    (l.i * bits_in (sort_at l.initial.terms (get_or l.a 0 0)))
