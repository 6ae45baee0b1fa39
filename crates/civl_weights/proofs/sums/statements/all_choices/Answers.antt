use Rattle.std.proofs.Common.{arith}
use Rattle.civl_tree.specs.declared.stmt.Stmt.{out-Stmt}
use Rattle.civl_meaning.specs.Layers.{program_at}
use Rattle.civl_conditions.specs.Variables.{layer_choices}
use Rattle.civl_weighing.specs.Bits.{choices_bits}
use Rattle.civl_weighing.proofs.Listing.{each_more, each_all, through}
use Rattle.civl_weights.proofs.sums.statements.all_choices.Goals as goal

pub loop-stmt-preserved : goal.loop-stmt-preserved
loop-stmt-preserved c = each_more (λ s. choices_bits (layer_choices (program_at c.args.program.now c.args.layer) (out-Stmt s.now))) c.args.flat.now c.loop-stmt.stmt-index c.stmt-item.result (omega arith) c.stmt-item.is c.in_ok-push.ensures.ok c.loop-stmt.invariant c.stmt_choices.ensures

pub returns : goal.returns
returns c = through (λ s. choices_bits (layer_choices (program_at c.args.program.now c.args.layer) (out-Stmt s))) (λ s. s.now) c.args.flat.now (each_all (λ s. choices_bits (layer_choices (program_at c.args.program.now c.args.layer) (out-Stmt s.now))) c.args.flat.now c.loop-stmt.stmt-index (omega arith) c.loop-stmt.invariant)
