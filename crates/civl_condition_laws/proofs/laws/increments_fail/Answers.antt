use Rattle.civl_tree.specs.declared.expr.Expr.{the_lemmas as of_expr}
use Rattle.civl_tree.proofs.Layers.{layers}
use Rattle.civl_layers.specs.Cuts.{cuts_among}
use Rattle.civl_firing.specs.Fired.{gate_holds, fires, fired}
use Rattle.civl_conditions.specs.paths.Paths.{path_from}
use Rattle.civl_conditions.specs.paths.Flows.{flow_from}
use Rattle.civl_linear.proofs.Examples.{traced_is}
use Rattle.civl_meaning.proofs.Rests.{rest_is, among_rest, rest_none}
use Rattle.civl_condition_laws.proofs.Going.{passes, flows, froms}
use Rattle.civl_conditions.specs.Violated.{violated}
use Rattle.civl_condition_laws.proofs.laws.increments_fail.Goals as goal

pub returns : goal.returns
unfolding cuts_among violated path_from flow_from gate_holds fires fired
returns c = (simp (layers, of_expr, passes, flows, froms, traced_is, rest_is, among_rest, rest_none), (simp (layers, of_expr, passes, flows, froms, traced_is, rest_is, among_rest, rest_none), (simp (layers, of_expr, passes, flows, froms, traced_is, rest_is, among_rest, rest_none), tt)))
