use Rattle.std.proofs.Common.{◌*◌, ◌+◌, get_or}
use Rattle.civl_firing.specs.values.Operators.{pick_value}
use Rattle.civl_firing.specs.values.Weights.{bits_in}
use Rattle.civl_terms.specs.Graphs.{sort_at, value_at}
use Rattle.civl_blast.specs.inner.rows.Making.{Makes, UsesRead}
use Rattle.civl_blast.proofs.rows.read.halve.Given as goal

abbrev pub invariant-loop-i : goal.invariant-loop-i
invariant-loop-i l =
    Makes l.initial.terms l.terms (UsesRead l.cells l.test) l.ids.items l.i (sort_at l.initial.terms (get_or l.cells 0 0))
    (λ env c. pick_value (value_at env l.initial.terms l.test) (value_at env l.initial.terms (get_or l.cells (2 * c + 1) 0)) (value_at env l.initial.terms (get_or l.cells (2 * c) 0)))
    (l.i * bits_in (sort_at l.initial.terms (get_or l.cells 0 0)))
