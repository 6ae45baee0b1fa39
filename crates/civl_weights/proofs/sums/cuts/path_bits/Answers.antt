use Rattle.std.proofs.Common.{Bool, List, ap, ◌+◌}
use Rattle.std.specs.Prelude.{not, if◌then◌else◌}
use Rattle.civl_tree.specs.declared.action.Param.{Param}
use Rattle.civl_tree.specs.declared.program.Local.{Local}
use Rattle.civl_conditions.specs.Weights.{outs_bits}
use Rattle.civl_weighing.specs.Bits.{locals_bits}
use Rattle.civl_weighing.proofs.Capping.{sum_weighs, where_weighs, weighs_same}
use Rattle.civl_weights.proofs.sums.cuts.path_bits.Goals as goal

pub returns : goal.returns
returns c = record {
  is = λ m n h k.
      let outs = weighs_same (ap (λ (ps : List Param). outs_bits ps) c.as_slice.ensures) c.params_bits-outs.ensures in
      let inner = sum_weighs c.plus-inner.ensures outs (weighs_same (ap (λ (ls : List Local). locals_bits ls) c.as_slice-2.ensures) c.locals_bits.ensures) in
      let flags = sum_weighs c.plus-flags.ensures (weighs_same (ap (λ (b : Bool). if not b then 1 else 0) c.is_entry-inside.ensures) c.one_where.ensures)
      (sum_weighs c.plus.ensures (weighs_same (ap (λ (b : Bool). if b then 1 else 0) c.is_rank_loop-again.ensures) c.one_where-2.ensures) k) in
      let own = sum_weighs c.plus-own.ensures (weighs_same (ap (λ (b : Bool). if not b then outs_bits c.args.proc.now.outs + locals_bits c.args.proc.now.locals else 0) c.is_entry-inside.ensures) (where_weighs c.if_so.ensures inner))
      (sum_weighs c.plus-2.ensures (weighs_same (ap (λ (b : Bool). if b then outs_bits c.args.proc.now.outs else 0) c.is_rank_loop-again.ensures) (where_weighs c.if_so-2.ensures outs)) flags) in
      sum_weighs c.plus-5.ensures h (sum_weighs c.plus-4.ensures (weighs_same (ap (λ (b : Bool). if b then m else 0) c.is_rank_loop-again.ensures) (where_weighs c.if_so-3.ensures h))
      (sum_weighs c.plus-3.ensures (weighs_same (ap (λ (ps : List Param). outs_bits ps) c.as_slice-3.ensures) c.params_bits.ensures) own));
}
