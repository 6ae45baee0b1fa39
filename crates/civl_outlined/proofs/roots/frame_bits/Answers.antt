use Rattle.std.proofs.Common.{List, ap}
use Rattle.civl_tree.specs.declared.action.Param.{Param}
use Rattle.civl_tree.specs.declared.program.Local.{Local}
use Rattle.civl_conditions.specs.Weights.{outs_bits}
use Rattle.civl_weighing.specs.Bits.{locals_bits}
use Rattle.civl_weighing.proofs.Capping.{sum_weighs, weighs_same}
use Rattle.civl_weights.proofs.sums.Groups.{params_bits_are, locals_bits_are}
use Rattle.civl_outlined.proofs.Stating.{frame_is}
use Rattle.civl_outlined.proofs.roots.frame_bits.Goals as goal

pub returns : goal.returns
returns c = λ front.
    frame_is c.args.proc.now front (params_bits_are front c.args.proc.now.params) (params_bits_are front c.args.proc.now.outs) (locals_bits_are front c.args.proc.now.locals)
    (sum_weighs c.plus-2.ensures (weighs_same (ap (λ (ps : List Param). outs_bits ps) c.as_slice-3.ensures) c.params_bits.ensures) (sum_weighs c.plus.ensures (weighs_same (ap (λ (ps : List Param). outs_bits ps) c.as_slice.ensures) c.params_bits-outs.ensures) (weighs_same (ap (λ (ls : List Local). locals_bits ls) c.as_slice-2.ensures) c.locals_bits-locals.ensures)))
