use Rattle.civl_tree.specs.declared.expr.Expr.{the_lemmas as of_expr}
use Rattle.civl_tree.proofs.Layers.{layers}
use Rattle.civl_firing.specs.Fired.{gate_holds, fires, fired}
use Rattle.civl_conditions.specs.Violated.{violated}
use Rattle.civl_condition_laws.proofs.laws.grabbing_fails.Goals as goal

pub returns : goal.returns
unfolding violated gate_holds fires fired
returns c = (simp (layers, of_expr), simp (layers, of_expr), simp (layers, of_expr))
