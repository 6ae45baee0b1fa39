use Rattle.std.proofs.Common.{◌≡◌, ◌++◌, map, flat_map, drop}
use Rattle.civl_tree.specs.declared.stmt.Stmt.{out-Stmt}
use Rattle.civl_meaning.specs.Layers.{program_at}
use Rattle.civl_conditions.specs.Weights.{layer_written}
use Rattle.civl_weights.proofs.sums.statements.add_each.Given as goal

abbrev pub invariant-loop-stmt : goal.invariant-loop-stmt
invariant-loop-stmt l = map (λ n. n.now) l.names.items ++ flat_map (λ s. layer_written (program_at l.program l.layer) (out-Stmt s)) (map (λ s. s.now) (drop l.stmt-index l.flat)) ≡ map (λ n. n.now) l.fn.names.items ++ flat_map (λ s. layer_written (program_at l.program l.layer) (out-Stmt s)) (map (λ s. s.now) l.flat)
