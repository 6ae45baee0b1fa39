use Rattle.std.proofs.Common.{ap}
use Rattle.civl_tree.specs.declared.expr.Expr.{the_lemmas as of_expr}
use Rattle.civl_tree.proofs.Layers.{layers}
use Rattle.civl_firing.specs.Fired.{gate_holds, fires, fired}
use Rattle.civl_meaning.specs.Rest.{with_rest, rest_among}
use Rattle.civl_conditions.proofs.paths.Passing.{passing}
use Rattle.civl_traces.specs.Traces.{trace_from}
use Rattle.civl_traces.specs.Told.{told}
use Rattle.civl_traces.proofs.Walks.{through_the_call}
use Rattle.civl_traces.proofs.Known.{as_known, knowing}
use Rattle.civl_traces.proofs.laws.walk_examples.Goals as goal

pub returns-clause-call : goal.returns-clause-call
returns-clause-call c = ap told through_the_call

pub returns-clause-branch : goal.returns-clause-branch
unfolding trace_from rest_among with_rest gate_holds fires fired
returns-clause-branch c = as_known _ _ (simp (layers, of_expr, passing, knowing))

pub returns-clause-past : goal.returns-clause-past
unfolding trace_from rest_among with_rest gate_holds fires fired
returns-clause-past c = as_known _ _ (simp (layers, of_expr, passing, knowing))

pub returns-clause-assert : goal.returns-clause-assert
unfolding trace_from rest_among with_rest gate_holds fires fired
returns-clause-assert c = as_known _ _ (simp (layers, of_expr, passing, knowing))

pub returns-clause-gate : goal.returns-clause-gate
unfolding trace_from rest_among with_rest gate_holds fires fired
returns-clause-gate c = as_known _ _ (simp (layers, of_expr, passing, knowing))

pub returns-clause-guard : goal.returns-clause-guard
unfolding trace_from rest_among with_rest gate_holds fires fired
returns-clause-guard c = as_known _ _ (simp (layers, of_expr, passing, knowing))

pub returns-clause-another : goal.returns-clause-another
unfolding trace_from rest_among with_rest gate_holds fires fired
returns-clause-another c = as_known _ _ (simp (layers, of_expr, passing, knowing))

pub returns-clause-entry : goal.returns-clause-entry
unfolding trace_from rest_among with_rest gate_holds fires fired
returns-clause-entry c = as_known _ _ (simp (layers, of_expr, passing, knowing))
