use Rattle.std.proofs.Common.{map, take}
use Rattle.civl_weighing.specs.Weighing.{AreWeights}
use Rattle.civl_tree.specs.declared.stmt.Stmt.{out-Stmt}
use Rattle.civl_meaning.specs.Layers.{program_at}
use Rattle.civl_conditions.specs.Weights.{layer_weight}
use Rattle.civl_weights.proofs.sums.statements.stmt_weights.Given as goal

abbrev pub invariant-loop-stmt : goal.invariant-loop-stmt
invariant-loop-stmt l = AreWeights l.weights (map (λ s. layer_weight (program_at l.program l.layer) l.proc s.now (out-Stmt s.now)) (take l.stmt-index l.flat))
