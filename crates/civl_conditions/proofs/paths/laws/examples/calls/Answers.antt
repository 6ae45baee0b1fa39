use Rattle.civl_tree.specs.declared.expr.Expr.{the_lemmas as of_expr}
use Rattle.civl_tree.proofs.Layers.{layers}
use Rattle.civl_firing.specs.Fired.{gate_holds, fires, fired}
use Rattle.civl_conditions.specs.paths.Paths.{path_from}
use Rattle.civl_conditions.proofs.paths.Passing.{passing}
use Rattle.civl_conditions.proofs.paths.laws.examples.calls.Goals as goal

pub returns-clause-past : goal.returns-clause-past
unfolding path_from gate_holds fires fired
returns-clause-past c = simp (layers, of_expr, passing)

pub returns-clause-gate : goal.returns-clause-gate
unfolding path_from gate_holds fires fired
returns-clause-gate c = simp (layers, of_expr, passing)

pub returns-clause-assert : goal.returns-clause-assert
unfolding path_from gate_holds fires fired
returns-clause-assert c = simp (layers, of_expr, passing)

pub returns-clause-guard : goal.returns-clause-guard
unfolding path_from gate_holds fires fired
returns-clause-guard c = simp (layers, of_expr, passing)

pub returns-clause-choices : goal.returns-clause-choices
unfolding path_from gate_holds fires fired
returns-clause-choices c = simp (layers, of_expr, passing)

pub returns-clause-others : goal.returns-clause-others
unfolding path_from gate_holds fires fired
returns-clause-others c = simp (layers, of_expr, passing)
