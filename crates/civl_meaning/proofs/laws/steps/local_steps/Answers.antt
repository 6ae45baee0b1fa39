use Rattle.civl_tree.specs.declared.expr.Expr.{the_lemmas as of_expr}
use Rattle.civl_firing.specs.Fired.{gate_holds, fires, fired}
use Rattle.civl_meaning.proofs.Placing.{placing}
use Rattle.civl_meaning.proofs.laws.steps.local_steps.Goals as goal

pub returns-clause-assign : goal.returns-clause-assign
unfolding gate_holds fires fired
returns-clause-assign c = simp (of_expr, placing)

pub returns-clause-first_branch : goal.returns-clause-first_branch
unfolding gate_holds fires fired
returns-clause-first_branch c = simp (of_expr, placing)

pub returns-clause-branch_end : goal.returns-clause-branch_end
unfolding gate_holds fires fired
returns-clause-branch_end c = simp (of_expr, placing)

pub returns-clause-second_branch : goal.returns-clause-second_branch
unfolding gate_holds fires fired
returns-clause-second_branch c = simp (of_expr, placing)

pub returns-clause-behind_branch : goal.returns-clause-behind_branch
unfolding gate_holds fires fired
returns-clause-behind_branch c = simp (of_expr, placing)

pub returns-clause-behind_both : goal.returns-clause-behind_both
unfolding gate_holds fires fired
returns-clause-behind_both c = simp (of_expr, placing)

pub returns-clause-loop_begin : goal.returns-clause-loop_begin
unfolding gate_holds fires fired
returns-clause-loop_begin c = simp (of_expr, placing)

pub returns-clause-loop_round : goal.returns-clause-loop_round
unfolding gate_holds fires fired
returns-clause-loop_round c = simp (of_expr, placing)

pub returns-clause-loop_end : goal.returns-clause-loop_end
unfolding gate_holds fires fired
returns-clause-loop_end c = simp (of_expr, placing)

pub returns-clause-assertion : goal.returns-clause-assertion
unfolding gate_holds fires fired
returns-clause-assertion c = simp (of_expr, placing)

pub returns-clause-choices : goal.returns-clause-choices
unfolding gate_holds fires fired
returns-clause-choices c = simp (of_expr, placing)
