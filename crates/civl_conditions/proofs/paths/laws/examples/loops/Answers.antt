use Rattle.civl_tree.specs.declared.expr.Expr.{the_lemmas as of_expr}
use Rattle.civl_tree.proofs.Layers.{layers}
use Rattle.civl_meaning.specs.Rest.{with_rest, rest_among}
use Rattle.civl_meaning.proofs.Rests.{rest_is}
use Rattle.civl_conditions.specs.paths.Paths.{path_from}
use Rattle.civl_conditions.proofs.paths.Passing.{passing}
use Rattle.civl_conditions.proofs.paths.laws.examples.loops.Goals as goal

pub returns-clause-to : goal.returns-clause-to
unfolding path_from
returns-clause-to c = simp (layers, of_expr, passing)

pub returns-clause-from : goal.returns-clause-from
unfolding path_from rest_among with_rest
returns-clause-from c = simp (layers, of_expr, passing)

pub returns-clause-inside : goal.returns-clause-inside
unfolding path_from rest_among with_rest
returns-clause-inside c = simp (layers, of_expr, passing, rest_is)

pub returns-clause-ranked : goal.returns-clause-ranked
unfolding path_from rest_among with_rest
returns-clause-ranked c = simp (layers, of_expr, passing, rest_is)
