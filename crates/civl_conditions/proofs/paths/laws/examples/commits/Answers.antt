use Rattle.civl_tree.specs.declared.expr.Expr.{the_lemmas as of_expr}
use Rattle.civl_tree.proofs.Layers.{layers}
use Rattle.civl_firing.specs.Fired.{gate_holds, fires, fired}
use Rattle.civl_meaning.specs.Rest.{with_rest, rest_among}
use Rattle.civl_conditions.specs.paths.Paths.{path_from}
use Rattle.civl_conditions.proofs.paths.Passing.{passing}
use Rattle.civl_conditions.proofs.paths.laws.examples.commits.Goals as goal

pub returns-clause-block : goal.returns-clause-block
unfolding path_from gate_holds fires fired
returns-clause-block c = simp (layers, of_expr, passing)

pub returns-clause-next : goal.returns-clause-next
unfolding path_from rest_among with_rest
returns-clause-next c = simp (layers, of_expr, passing)

pub returns-clause-two : goal.returns-clause-two
unfolding path_from gate_holds fires fired
returns-clause-two c = simp (layers, of_expr, passing)

pub returns-clause-intro : goal.returns-clause-intro
unfolding path_from gate_holds fires fired
returns-clause-intro c = simp (layers, of_expr, passing)
