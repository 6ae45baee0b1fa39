use Rattle.std.proofs.Common.{List, ap}
use Rattle.civl_tree.specs.declared.action.Param.{Param}
use Rattle.civl_tree.specs.declared.program.Local.{Local}
use Rattle.civl_conditions.specs.Weights.{outs_bits}
use Rattle.civl_weighing.specs.Bits.{locals_bits}
use Rattle.civl_weighing.proofs.Capping.{sum_weighs, weighs_same}
use Rattle.civl_weights.proofs.sums.notes.frame_bits.Goals as goal

pub returns : goal.returns
returns c = sum_weighs c.plus-3.ensures (weighs_same (ap (λ (ps : List Param). outs_bits ps) c.as_slice-3.ensures) c.params_bits.ensures) (sum_weighs c.plus-2.ensures (weighs_same (ap (λ (ps : List Param). outs_bits ps) c.as_slice.ensures) c.params_bits-outs.ensures) (sum_weighs c.plus.ensures (weighs_same (ap (λ (ls : List Local). locals_bits ls) c.as_slice-2.ensures) c.locals_bits-locals.ensures) c.of.ensures))
