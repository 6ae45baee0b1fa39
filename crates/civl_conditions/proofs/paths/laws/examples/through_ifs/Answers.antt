use Rattle.civl_tree.specs.declared.expr.Expr.{the_lemmas as of_expr}
use Rattle.civl_tree.proofs.Layers.{layers}
use Rattle.civl_conditions.specs.paths.Paths.{path_from}
use Rattle.civl_conditions.proofs.paths.Passing.{passing}
use Rattle.civl_conditions.proofs.paths.laws.examples.through_ifs.Goals as goal

pub returns : goal.returns
unfolding path_from
returns c = simp (layers, of_expr, passing)
