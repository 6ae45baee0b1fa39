use Rattle.std.proofs.Common.{arith}
use Rattle.civl_tree.specs.declared.stmt.Stmt.{out-Stmt}
use Rattle.civl_meaning.specs.Layers.{program_at}
use Rattle.civl_conditions.specs.Weights.{layer_weight}
use Rattle.civl_weighing.proofs.Listing.{each_more, each_all, through}
use Rattle.civl_weights.proofs.sums.statements.stmt_weights.Goals as goal

pub loop-stmt-preserved : goal.loop-stmt-preserved
loop-stmt-preserved c = each_more (λ s. layer_weight (program_at c.args.program.now c.args.layer) c.args.proc.now s.now (out-Stmt s.now)) c.args.flat.now c.loop-stmt.stmt-index c.stmt-item.result (omega arith) c.stmt-item.is c.in_ok-push.ensures.ok c.loop-stmt.invariant c.in_ok-stmt_weight.ensures

pub returns : goal.returns
returns c = through (λ s. layer_weight (program_at c.args.program.now c.args.layer) c.args.proc.now s (out-Stmt s)) (λ s. s.now) c.args.flat.now (each_all (λ s. layer_weight (program_at c.args.program.now c.args.layer) c.args.proc.now s.now (out-Stmt s.now)) c.args.flat.now c.loop-stmt.stmt-index (omega arith) c.loop-stmt.invariant)
