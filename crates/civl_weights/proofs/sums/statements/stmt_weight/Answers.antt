use Rattle.std.proofs.Common.{List, ap, sym}
use Rattle.civl_tree.specs.declared.expr.Expr.{Expr}
use Rattle.civl_tree.specs.declared.stmt.Stmt.{the_lemmas as of_stmt}
use Rattle.civl_tree.specs.declared.stmt.Stmt.TheOpen as stmt
use Rattle.civl_meaning.specs.Layers.{program_at}
use Rattle.civl_conditions.specs.Weights.{weights_of, body_weight}
use Rattle.civl_weights.specs.sums.Sums.{joined}
use Rattle.civl_weighing.proofs.Capping.{sum_weighs, weighs_same}
use Rattle.civl_weights.proofs.sums.Naming.{of_form, branches}
use Rattle.civl_weights.proofs.sums.statements.stmt_weight.Goals as goal

pub returns-in-Assign : goal.returns-in-Assign
returns-in-Assign c = of_form (program_at c.args.program.now c.args.layer) c.args.proc.now c.args.stmt.now (stmt.Assign c.in-Assign.field-0 c.in-Assign.expr) (rw c.in-Assign.is (simp of_stmt)) (sum_weighs c.plus.ensures c.of-one.ensures c.weight_of.ensures)

pub returns-in-Assert : goal.returns-in-Assert
returns-in-Assert c = of_form (program_at c.args.program.now c.args.layer) c.args.proc.now c.args.stmt.now (stmt.Assert c.in-Assert.expr) (rw c.in-Assert.is (simp of_stmt)) (sum_weighs c.plus-in-Assert.ensures c.of-one.ensures c.weight_of-in-Assert.ensures)

pub returns-in-YieldLoop : goal.returns-in-YieldLoop
returns-in-YieldLoop c = of_form (program_at c.args.program.now c.args.layer) c.args.proc.now c.args.stmt.now (stmt.YieldLoop c.in-YieldLoop.test c.in-YieldLoop.field-1 c.in-YieldLoop.field-2) (rw c.in-YieldLoop.is (simp of_stmt)) (sum_weighs c.plus-in-YieldLoop.ensures c.of-one.ensures c.weight_of-in-YieldLoop.ensures)

pub returns-in-RankLoop : goal.returns-in-RankLoop
returns-in-RankLoop c = of_form (program_at c.args.program.now c.args.layer) c.args.proc.now c.args.stmt.now (stmt.RankLoop c.in-RankLoop.test c.in-RankLoop.field-1 c.in-RankLoop.field-2 c.in-RankLoop.field-3) (rw c.in-RankLoop.is (simp of_stmt)) (sum_weighs c.plus-in-RankLoop.ensures c.of-one.ensures c.weight_of-in-RankLoop.ensures)

pub returns-in-Intro : goal.returns-in-Intro
returns-in-Intro c = of_form (program_at c.args.program.now c.args.layer) c.args.proc.now c.args.stmt.now (stmt.Intro c.in-Intro.field-0 c.in-Intro.expr) (rw c.in-Intro.is (simp of_stmt)) (sum_weighs c.plus-in-Intro.ensures c.of-one.ensures c.weight_of-in-Intro.ensures)

pub returns-in_ok-join-in-If : goal.returns-in_ok-join-in-If
returns-in_ok-join-in-If c = of_form (program_at c.args.program.now c.args.layer) c.args.proc.now c.args.stmt.now (stmt.If c.in-If.test c.in-If.first c.in-If.second) (rw c.in-If.is (simp of_stmt)) (sum_weighs c.plus-in-If-3.ensures (sum_weighs c.plus-in-If-2.ensures (sum_weighs c.plus-in-If.ensures c.of-one.ensures c.weight_of-in-If.ensures) c.of.ensures) (weighs_same (ap (joined c.args.program.now c.args.layer c.args.proc.now) (sym (branches c.args.stmt.now c.in-If.test c.in-If.first c.in-If.second (rw c.in-If.is (simp of_stmt))))) c.in_ok-join-in-If.ensures))

pub returns-in-Call : goal.returns-in-Call
returns-in-Call c = of_form (program_at c.args.program.now c.args.layer) c.args.proc.now c.args.stmt.now (stmt.Call c.in-Call.callee c.in-Call.args c.in-Call.field-2) (rw c.in-Call.is (simp of_stmt)) (sum_weighs c.plus-in-Call-2.ensures (sum_weighs c.plus-in-Call.ensures c.of-one.ensures (weighs_same (ap (λ (es : List Expr). weights_of (body_weight c.args.program.now c.args.proc.now) es) c.as_slice.ensures) c.weights_of-args.ensures)) c.call_weight.ensures)
