use Rattle.std.proofs.Common.{refl}
use Rattle.civl_tree.specs.declared.expr.Expr.{the_lemmas as of_expr}
use Rattle.civl_firing.specs.Fired.{gate_holds, fires, fired}
use Rattle.civl_meaning.proofs.Placing.{placing}
use Rattle.civl_meaning.proofs.laws.steps.refusals.Goals as goal

pub returns-clause-nothread : goal.returns-clause-nothread
returns-clause-nothread c = refl

pub returns-clause-ended : goal.returns-clause-ended
returns-clause-ended c = refl

pub returns-clause-failing : goal.returns-clause-failing
unfolding gate_holds fires fired
returns-clause-failing c = simp (of_expr, placing)

pub returns-clause-gate : goal.returns-clause-gate
unfolding gate_holds fires fired
returns-clause-gate c = simp (of_expr, placing)

pub returns-clause-gate_first : goal.returns-clause-gate_first
unfolding gate_holds fires fired
returns-clause-gate_first c = simp (of_expr, placing)

pub returns-clause-too_few : goal.returns-clause-too_few
unfolding gate_holds fires fired
returns-clause-too_few c = simp (of_expr, placing)

pub returns-clause-too_many : goal.returns-clause-too_many
unfolding gate_holds fires fired
returns-clause-too_many c = simp (of_expr, placing)

pub returns-clause-other_sort : goal.returns-clause-other_sort
unfolding gate_holds fires fired
returns-clause-other_sort c = simp (of_expr, placing)

pub returns-clause-blocked : goal.returns-clause-blocked
unfolding gate_holds fires fired
returns-clause-blocked c = simp (of_expr, placing)
