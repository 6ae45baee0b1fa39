use Rattle.std.proofs.Common.{ap}
use Rattle.civl_tree.specs.declared.stmt.Stmt.{out-Stmt}
use Rattle.civl_meaning.specs.Layers.{program_at}
use Rattle.civl_conditions.specs.Weights.{layer_written}
use Rattle.civl_tree.specs.Numbering.{statements_of}
use Rattle.civl_weights.specs.sums.Sums.{names_joined}
use Rattle.civl_weighing.proofs.Capping.{weighs_same}
use Rattle.civl_weights.proofs.sums.Naming.{both_named}
use Rattle.civl_weights.proofs.sums.statements.join_weight.Goals as goal

pub returns : goal.returns
returns c = weighs_same (ap (names_joined c.args.program.now c.args.proc.now) (both_named (λ n. n.now) (λ s. layer_written (program_at c.args.program.now c.args.layer) (out-Stmt s)) _ _ _ _ (statements_of c.args.first.now) (statements_of c.args.second.now) c.new-names.ensures.items c.in_ok-add_all_written.ensures c.in_ok-add_all_written-2.ensures c.deref.ensures.value)) c.all_written.ensures
