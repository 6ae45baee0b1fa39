use Rattle.std.proofs.Common.{List, ap}
use Rattle.civl_tree.specs.declared.action.Param.{Param}
use Rattle.civl_tree.specs.declared.stmt.Stmt.{out-Stmt}
use Rattle.civl_meaning.specs.Layers.{program_at}
use Rattle.civl_conditions.specs.Variables.{layer_choices}
use Rattle.civl_conditions.specs.Weights.{outs_bits, layer_weight}
use Rattle.civl_weighing.specs.Bits.{choices_bits}
use Rattle.civl_weighing.proofs.Capping.{sum_weighs, weighs_same}
use Rattle.civl_weighing.proofs.Listing.{moved}
use Rattle.civl_weights.proofs.sums.cuts.body_sums.Goals as goal

pub returns : goal.returns
returns c =
    let stutter = sum_weighs c.plus-stutter.ensures c.of.ensures (sum_weighs c.plus-results.ensures c.requires.step.upper (weighs_same (ap (λ (ps : List Param). outs_bits ps) c.as_slice.ensures) c.params_bits.ensures)) in
    record {
      gate = c.refined_gate.ensures;
      stutter = stutter;
      perform = sum_weighs c.plus-2.ensures (sum_weighs c.plus.ensures stutter c.with_weight-with.ensures) c.refined_effect.ensures;
      weights = moved (λ k s. layer_weight (program_at c.args.program.now k) c.args.proc.now s (out-Stmt s)) c.saturating_sub-below.ensures c.requires.statements c.in_ok-stmt_weights.ensures;
      choices = moved (λ k s. choices_bits (layer_choices (program_at c.args.program.now k) (out-Stmt s))) c.saturating_sub-below.ensures c.requires.statements c.in_ok-all_choices.ensures;
    }
