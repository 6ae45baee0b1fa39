use Rattle.std.proofs.Common.{arith, sym, []}
use Rattle.civl_tree.specs.rules.StoreSize.{bits_of}
use Rattle.civl_weighing.proofs.Capping.{weighs_same}
use Rattle.civl_conditions.specs.Variables.{variable}
use Rattle.civl_weighing.proofs.Summing.{one_more, bits_mapped, whole}
use Rattle.civl_weighing.proofs.bits.all_globals.Goals as goal

pub loop-global-preserved : goal.loop-global-preserved
loop-global-preserved c = one_more (λ x. bits_of x.sort) c.args.globals.now c.loop-global.global-index c.global-item.result (omega arith) c.global-item.is c.plus-total.ensures c.bits_of.ensures c.loop-global.invariant

pub returns : goal.returns
returns c = weighs_same (sym (bits_mapped (λ g. variable [] g.name g.sort) c.args.globals.now)) (whole (λ x. bits_of x.sort) c.args.globals.now c.loop-global.global-index (omega arith) c.loop-global.invariant)
