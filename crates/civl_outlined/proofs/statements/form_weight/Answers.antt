use Rattle.std.proofs.Common.{List, ap}
use Rattle.civl_tree.specs.declared.expr.Expr.{Expr}
use Rattle.civl_tree.specs.declared.stmt.Stmt.{the_lemmas as of_stmt}
use Rattle.civl_tree.specs.declared.stmt.Stmt.TheOpen as stmt
use Rattle.civl_conditions.specs.Weights.{weights_of, body_weight}
use Rattle.civl_goals.specs.Weights.{form_weight}
use Rattle.civl_weighing.proofs.Capping.{sum_weighs, weighs_same}
use Rattle.civl_outlined.proofs.Stating.{of_form}
use Rattle.civl_outlined.proofs.statements.form_weight.Goals as goal

pub returns-in-Assign : goal.returns-in-Assign
returns-in-Assign c = of_form (form_weight c.args.program.now c.args.proc.now) c.args.stmt.now (stmt.Assign c.in-Assign.field-0 c.in-Assign.expr) (rw c.in-Assign.is (simp of_stmt)) c.weight_of.ensures

pub returns-in-Assert : goal.returns-in-Assert
returns-in-Assert c = of_form (form_weight c.args.program.now c.args.proc.now) c.args.stmt.now (stmt.Assert c.in-Assert.expr) (rw c.in-Assert.is (simp of_stmt)) c.weight_of-in-Assert.ensures

pub returns-in-If : goal.returns-in-If
returns-in-If c = of_form (form_weight c.args.program.now c.args.proc.now) c.args.stmt.now (stmt.If c.in-If.test c.in-If.field-1 c.in-If.field-2) (rw c.in-If.is (simp of_stmt)) c.weight_of-in-If.ensures

pub returns-in-While : goal.returns-in-While
returns-in-While c = of_form (form_weight c.args.program.now c.args.proc.now) c.args.stmt.now (stmt.While c.in-While.test c.in-While.field-1) (rw c.in-While.is (simp of_stmt)) c.weight_of-in-While.ensures

pub returns-in-YieldLoop : goal.returns-in-YieldLoop
returns-in-YieldLoop c = of_form (form_weight c.args.program.now c.args.proc.now) c.args.stmt.now (stmt.YieldLoop c.in-YieldLoop.test c.in-YieldLoop.field-1 c.in-YieldLoop.field-2) (rw c.in-YieldLoop.is (simp of_stmt)) c.weight_of-in-YieldLoop.ensures

pub returns-in-RankLoop : goal.returns-in-RankLoop
returns-in-RankLoop c = of_form (form_weight c.args.program.now c.args.proc.now) c.args.stmt.now (stmt.RankLoop c.in-RankLoop.test c.in-RankLoop.field-1 c.in-RankLoop.field-2 c.in-RankLoop.field-3) (rw c.in-RankLoop.is (simp of_stmt)) c.weight_of-in-RankLoop.ensures

pub returns-in-Call : goal.returns-in-Call
returns-in-Call c =
    of_form (form_weight c.args.program.now c.args.proc.now) c.args.stmt.now (stmt.Call c.in-Call.callee c.in-Call.args c.in-Call.field-2) (rw c.in-Call.is (simp of_stmt))
    (sum_weighs c.plus.ensures (weighs_same (ap (λ (es : List Expr). weights_of (body_weight c.args.program.now c.args.proc.now) es) c.as_slice.ensures) c.weights_of-args.ensures) c.call_weight.ensures)

pub returns-in-Spawn : goal.returns-in-Spawn
returns-in-Spawn c =
    of_form (form_weight c.args.program.now c.args.proc.now) c.args.stmt.now (stmt.Spawn c.in-Spawn.field-0 c.in-Spawn.args) (rw c.in-Spawn.is (simp of_stmt))
    (weighs_same (ap (λ (es : List Expr). weights_of (body_weight c.args.program.now c.args.proc.now) es) c.as_slice-in-Spawn.ensures) c.weights_of.ensures)
