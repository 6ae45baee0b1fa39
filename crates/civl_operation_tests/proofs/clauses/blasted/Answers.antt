use Rattle.std.proofs.Common.{refl, arith}
use Rattle.civl_terms.proofs.Weighing.{terms_weigh_less}
use Rattle.civl_operation_tests.proofs.clauses.blasted.Goals as goal

pub blast-requires-clause-light : goal.blast-requires-clause-light
blast-requires-clause-light c = omega (arith, terms_weigh_less c.args.terms.now c.args.id (c.if-not-has_sort.ensures.within refl), c.in_ok-weight.ensures.weight, c.if-weight-gt1600000.false)
