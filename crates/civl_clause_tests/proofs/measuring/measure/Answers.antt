use Rattle.std.proofs.Common.{◌∙◌, sym, ap, arith}
use Rattle.std.proofs.lemmas.Option.{slice_get_within}
use Rattle.civl_terms.specs.declared.node.Node.TheVariants.{Variable}
use Rattle.civl_terms.specs.Weights.{first_weight, graph_weight}
use Rattle.civl_clause_tests.proofs.measuring.measure.Goals as goal

pub returns-clause-weight : goal.returns-clause-weight
unfolding graph_weight
returns-clause-weight c = ap (first_weight c.args.terms.now) (omega (arith, c.loop-at-test.false, c.len-at-end.ensures.is, c.loop-at.auto.at-end)) ∙ sym c.loop-at.invariant.total

pub returns-clause-numbers : goal.returns-clause-numbers
returns-clause-numbers c = λ t i k s e. c.loop-at.invariant.numbers i k s (omega (arith, slice_get_within c.args.terms.now i (Variable k s) e, c.loop-at-test.false, c.len-at-end.ensures.is)) e
