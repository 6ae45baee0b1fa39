use Rattle.civl_tree.specs.declared.expr.Expr.{the_lemmas as of_expr}
use Rattle.civl_tree.proofs.Layers.{layers}
use Rattle.civl_firing.proofs.Weighing.{weight_is}
use Rattle.civl_meaning.proofs.Placing.{placing}
use Rattle.civl_linear.proofs.Examples.{examples}
use Rattle.civl_goals.specs.Listed.{goals}
use Rattle.civl_goals.specs.Variables.{variables}
use Rattle.civl_goals.specs.Weights.{weight}
use Rattle.civl_goals.proofs.laws.set_weights.Goals as goal

pub returns : goal.returns
unfolding goals variables weight
returns c = simp (layers, of_expr, placing, examples, weight_is)
