use Rattle.civl_tree.specs.declared.expr.Expr.{the_lemmas as of_expr}
use Rattle.civl_tree.specs.declared.stmt.Stmt.{the_lemmas as of_stmt}
use Rattle.civl_layers.specs.Cuts.{cuts_among}
use Rattle.civl_firing.specs.Fired.{gate_holds, fires, fired}
use Rattle.civl_conditions.specs.paths.Paths.{path_from}
use Rattle.civl_conditions.specs.paths.Flows.{flow_from}
use Rattle.civl_condition_laws.proofs.Going.{passes, flows, froms}
use Rattle.civl_condition_laws.proofs.Forms.{inners, traces, rests}
use Rattle.civl_conditions.specs.Violated.{violated}
use Rattle.civl_condition_laws.proofs.laws.fresh_fails.Goals as goal

pub returns : goal.returns
unfolding cuts_among violated path_from flow_from gate_holds fires fired
returns c = (simp (of_expr, of_stmt, inners, passes, flows, froms, traces, rests), (simp (of_expr, of_stmt, inners, passes, flows, froms, traces, rests), tt))
