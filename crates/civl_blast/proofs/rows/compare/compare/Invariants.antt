use Rattle.std.proofs.Common.{◌*◌, ◌+◌, get_or, Some}
use Rattle.civl_tree.specs.declared.expr.Sort.TheVariants as sort
use Rattle.civl_firing.specs.values.Weights.{bits_in}
use Rattle.civl_terms.specs.Graphs.{sort_at, value_at}
use Rattle.civl_blast.specs.inner.rows.Making.{MakesOne, UsesPairs, joined}
use Rattle.civl_blast.proofs.rows.compare.compare.Given as goal

abbrev pub invariant-loop-i : goal.invariant-loop-i
invariant-loop-i l =
    MakesOne l.fn.terms l.terms (UsesPairs l.a l.b) l.all (Some sort.Bool)
    (λ env. joined l.op l.join (λ c. value_at env l.fn.terms (get_or l.a c 0)) (λ c. value_at env l.fn.terms (get_or l.b c 0)) l.i)
    ((l.i + 1) * (bits_in (sort_at l.fn.terms (get_or l.a 0 0)) + 1))
