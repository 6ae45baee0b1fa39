use Rattle.civl_tree.specs.declared.expr.Expr.{the_lemmas as of_expr}
use Rattle.civl_firing.specs.Fired.{gate_holds, fires, fired}
use Rattle.civl_meaning.proofs.Placing.{placing}
use Rattle.civl_meaning.proofs.laws.steps.other_loops.Goals as goal

pub returns-clause-yield_begin : goal.returns-clause-yield_begin
unfolding gate_holds fires fired
returns-clause-yield_begin c = simp (of_expr, placing)

pub returns-clause-yield_round : goal.returns-clause-yield_round
unfolding gate_holds fires fired
returns-clause-yield_round c = simp (of_expr, placing)

pub returns-clause-yield_end : goal.returns-clause-yield_end
unfolding gate_holds fires fired
returns-clause-yield_end c = simp (of_expr, placing)

pub returns-clause-rank_begin : goal.returns-clause-rank_begin
unfolding gate_holds fires fired
returns-clause-rank_begin c = simp (of_expr, placing)

pub returns-clause-rank_round : goal.returns-clause-rank_round
unfolding gate_holds fires fired
returns-clause-rank_round c = simp (of_expr, placing)

pub returns-clause-rank_end : goal.returns-clause-rank_end
unfolding gate_holds fires fired
returns-clause-rank_end c = simp (of_expr, placing)
