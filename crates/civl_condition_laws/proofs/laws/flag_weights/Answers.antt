use Rattle.civl_tree.specs.declared.expr.Expr.{the_lemmas as of_expr}
use Rattle.civl_tree.proofs.Layers.{layers}
use Rattle.civl_firing.proofs.Weighing.{weight_is}
use Rattle.civl_layers.specs.Cuts.{cuts_among}
use Rattle.civl_conditions.specs.paths.Flows.{flow_from}
use Rattle.civl_conditions.proofs.paths.Passing.{passing}
use Rattle.civl_conditions.specs.Listed.{conditions}
use Rattle.civl_conditions.specs.Variables.{variables}
use Rattle.civl_conditions.specs.Weights.{weight, initial_weight}
use Rattle.civl_condition_laws.proofs.laws.flag_weights.Goals as goal

pub returns : goal.returns
unfolding cuts_among flow_from conditions variables weight initial_weight
returns c = (simp (layers, of_expr, passing, weight_is), simp (layers, of_expr, passing, weight_is))
